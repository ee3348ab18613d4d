use Rattle.bits.specs.Choice.{pick}
use Rattle.model.specs.PathStates.{state_of}
use native.Mathlib.Omega.{arith}
use mathlib.Core.Path.{sym, ap, ◌∙◌}
use Rattle.work_closing.proofs.Groups.{none-commissioned, state_decides}
use Rattle.work_closing.proofs.immediate_mask.Goals as goal

pub returns-then-first-ge-COUNT : goal.returns-then-first-ge-COUNT
returns-then-first-ge-COUNT c = sym (none-commissioned _ _ (omega arith) (rw c.next_in-first.ensures at c.if-first-ge-COUNT.true))

pub returns-then-is_commissioned : goal.returns-then-is_commissioned
unfolding pick
returns-then-is_commissioned c = let state = c.from-state.ensures ∙ ap state_of c.nibble.ensures in
    let decides = state_decides _ _ c.next_in-first.ensures state c.is_commissioned.ensures in
    rw (c.if-is_commissioned.true, pick) at decides

pub returns-else-is_commissioned : goal.returns-else-is_commissioned
unfolding pick
returns-else-is_commissioned c = let state = c.from-state.ensures ∙ ap state_of c.nibble.ensures in
    let decides = state_decides _ _ c.next_in-first.ensures state c.is_commissioned.ensures in
    rw (c.if-is_commissioned.false, pick) at decides
