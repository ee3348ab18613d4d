use mathlib.Core.Path.{◌≡◌}
use mathlib.Core.Bool.{true}
use Prim.Native.Nat.{◌+◌}
use lib.ListN.{set}
use Rattle.bits.specs.Loop.{each}
use Rattle.model.specs.Commands.{reply_byte}
use Rattle.model.specs.Map.{body_address, message_body}
use Rattle.commands_replies.proofs.put_reply_body.Given as goal

abbrev pub invariant-loop-k : goal.invariant-loop-k
invariant-loop-k l = l.image ≡ each (λ j. true) (λ j y. set y (message_body + j) (reply_byte l.major l.minor l.command (body_address + j))) l.k l.initial.image
