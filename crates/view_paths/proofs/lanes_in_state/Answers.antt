use borrow.Author.Rules.{rules}
use mathlib.Core.Path.{ap, sym, ◌∙◌}
use native.Mathlib.Omega.{arith}
use Prim.Native.Nat.{◌-◌}
use lib.Dec.{eqb}
use Rattle.bits.proofs.Turns.{mask_begin, mask_turn}
use Rattle.view_paths.proofs.Lanes.{state_at_lem}
use Rattle.view_paths.proofs.lanes_in_state.Goals as goal

pub loop-lane-init : goal.loop-lane-init
loop-lane-init c = (search rules, mask_begin _)

pub loop-lane-preserved : goal.loop-lane-preserved
loop-lane-preserved c = let l = c.loop-lane in
    let same = ap (λ k. eqb k c.args.state) (c.nibble.ensures ∙ sym (state_at_lem _ _ (omega arith))) in
    (search rules, mask_turn _ _ _ _ _ l.invariant.1 same c.with_lane-found.ensures)
