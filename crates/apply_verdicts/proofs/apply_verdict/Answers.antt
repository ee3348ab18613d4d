use mathlib.Core.Path.{sym, ◌∙◌}
use Rattle.bits.specs.Choice.{pick}
use Rattle.model.specs.View.{view_of}
use Rattle.model.specs.Verdicts.{apply_by, apply_verdict}
use Rattle.applications.proofs.Laws.{application_in_lem}
use Rattle.apply_verdicts.proofs.apply_verdict.Goals as goal

pub returns-then-has_other_app_sel : goal.returns-then-has_other_app_sel
unfolding apply_verdict view_of pick
returns-then-has_other_app_sel c = rw (sym c.has_other_app_sel.ensures ∙ c.if-has_other_app_sel.true, pick)

pub returns-in_default : goal.returns-in_default
unfolding apply_verdict apply_by view_of pick
returns-in_default c = rw (
  sym c.has_other_app_sel.ensures ∙ c.if-has_other_app_sel.false,
  pick,
  application_in_lem _ _ c.requires.2
      ∙ (sym c.look_up.ensures ∙ c.in_default.is),
)

pub returns : goal.returns
unfolding apply_verdict view_of pick
returns c = rw (
  sym c.has_other_app_sel.ensures ∙ c.if-has_other_app_sel.false,
  pick,
  application_in_lem _ _ c.requires.2
      ∙ (sym c.look_up.ensures ∙ c.in-Some.is),
)
    c.descriptor_verdict.ensures
