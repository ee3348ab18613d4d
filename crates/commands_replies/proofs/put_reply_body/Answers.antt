use mathlib.Core.Path.{refl}
use Rattle.bits.proofs.Loops.{each_begin, each_turn}
use Rattle.commands_replies.proofs.put_reply_body.Goals as goal

pub loop-k-init : goal.loop-k-init
loop-k-init c = each_begin _ _ _

pub loop-k-preserved : goal.loop-k-preserved
loop-k-preserved c = rw c.reply_byte.ensures (each_turn _ _ _ _ _ c.loop-k.invariant refl)
