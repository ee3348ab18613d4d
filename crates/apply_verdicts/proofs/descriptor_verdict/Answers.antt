use mathlib.Core.Path.{sym, ◌∙◌}
use Rattle.bits.specs.Choice.{pick}
use Rattle.model.specs.View.{view_of}
use Rattle.model.specs.Verdicts.{apply_by}
use Rattle.apply_reasons.proofs.Laws.{any_set}
use Rattle.apply_verdicts.proofs.descriptor_verdict.Goals as goal

pub returns-then-is_misplaced : goal.returns-then-is_misplaced
unfolding apply_by view_of pick
returns-then-is_misplaced c = rw (sym c.is_misplaced.ensures ∙ c.if-is_misplaced.true, pick)

pub returns-then-is_incomplete : goal.returns-then-is_incomplete
unfolding apply_by view_of pick
returns-then-is_incomplete c = rw (
  sym c.is_misplaced.ensures ∙ c.if-is_misplaced.false,
  pick,
  sym c.is_incomplete.ensures ∙ c.if-is_incomplete.true,
  pick,
)

pub returns-then-is_crossing : goal.returns-then-is_crossing
unfolding apply_by view_of pick
returns-then-is_crossing c = rw (
  sym c.is_misplaced.ensures ∙ c.if-is_misplaced.false,
  pick,
  sym c.is_incomplete.ensures ∙ c.if-is_incomplete.false,
  pick,
  sym c.is_crossing.ensures ∙ c.if-is_crossing.true,
  pick,
)

pub returns-then-is_unsupported : goal.returns-then-is_unsupported
unfolding apply_by view_of pick
returns-then-is_unsupported c = rw (
  sym c.is_misplaced.ensures
      ∙ c.if-is_misplaced.false,
  pick,
  sym c.is_incomplete.ensures ∙ c.if-is_incomplete.false,
  pick,
  sym c.is_crossing.ensures ∙ c.if-is_crossing.false,
  pick,
  sym c.is_unsupported.ensures ∙ c.if-is_unsupported.true,
  pick,
)

pub returns-then-is_wrong_state : goal.returns-then-is_wrong_state
unfolding apply_by view_of pick
returns-then-is_wrong_state c = rw (
  sym c.is_misplaced.ensures
      ∙ c.if-is_misplaced.false,
  pick,
  sym c.is_incomplete.ensures
      ∙ c.if-is_incomplete.false,
  pick,
  sym c.is_crossing.ensures ∙ c.if-is_crossing.false,
  pick,
  sym c.is_unsupported.ensures ∙ c.if-is_unsupported.false,
  pick,
  any_set _ c.args.base _ _ _ _
      ∙ sym c.is_wrong_state.ensures
      ∙ c.if-is_wrong_state.true,
  pick,
)

pub returns : goal.returns
unfolding apply_by view_of pick
returns c = rw (
  sym c.is_misplaced.ensures
      ∙ c.if-is_misplaced.false,
  pick,
  sym c.is_incomplete.ensures
      ∙ c.if-is_incomplete.false,
  pick,
  sym c.is_crossing.ensures ∙ c.if-is_crossing.false,
  pick,
  sym c.is_unsupported.ensures ∙ c.if-is_unsupported.false,
  pick,
  any_set _ c.args.base _ _ _ _
      ∙ sym c.is_wrong_state.ensures
      ∙ c.if-is_wrong_state.false,
  pick,
)
    c.passed.ensures
