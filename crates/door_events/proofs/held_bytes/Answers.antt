use native.Mathlib.Omega.{arith}
use mathlib.Core.Path.{◌≡◌, refl, ◌∙◌}
use Rattle.bits.specs.Loop.{tab}
use Rattle.bits.proofs.Loops.{each_begin, each_turn, length-tab}
use Rattle.model.specs.Access.{write_limit}
use Rattle.door_events.proofs.Held.{held_loop}
use Rattle.door_events.proofs.held_bytes.Goals as goal

pub loop-k-init : goal.loop-k-init
unfolding tab
loop-k-init c = each_begin _ _ _

pub loop-k-preserved : goal.loop-k-preserved
loop-k-preserved c = rw c.byte_at.ensures (each_turn _ _ _ _ _ c.loop-k.invariant refl)

pub returns : goal.returns
returns c = let e : c.loop-k.k ≡ write_limit = omega arith in
    (rw e at c.loop-k.invariant) ∙ held_loop _ _ (length-tab write_limit (λ j. 0))
