use borrow.Author.Rules.{rules}
use mathlib.Core.Path.{sym, ◌∙◌}
use Rattle.sound_passing.proofs.Groups.{first_below, rests-none, rests_by}
use Rattle.sound_passing.proofs.rests.Goals as goal

pub returns-then-first-eq-COUNT : goal.returns-then-first-eq-COUNT
returns-then-first-eq-COUNT c = rests-none _ _ _ (sym c.next_in-first.ensures ∙ c.if-first-eq-COUNT.true)

pub nibble-state-requires : goal.nibble-state-requires
nibble-state-requires c = (search rules, first_below _ _ c.next_in-first.ensures c.if-first-eq-COUNT.false)

pub agree_on_state-requires : goal.agree_on_state-requires
agree_on_state-requires c = first_below _ _ c.next_in-first.ensures c.if-first-eq-COUNT.false

pub returns : goal.returns
returns c = rests_by _ _ _ _ _ _ _ _
    (first_below _ _ c.next_in-first.ensures c.if-first-eq-COUNT.false)
    c.next_in-first.ensures
    c.nibble-state.ensures
    c.agree_on_state.ensures
    (rw c.from.ensures at c.is_resting-resting.ensures)
    c.is_release.ensures
