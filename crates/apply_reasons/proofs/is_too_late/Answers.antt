use Rattle.bits.proofs.Tests.{and_both}
use Rattle.model.specs.View.{view_of}
use Rattle.model.specs.Verdicts.{too_late}
use Rattle.apply_reasons.proofs.is_too_late.Goals as goal

pub returns-in-DpInit : goal.returns-in-DpInit
unfolding too_late
returns-in-DpInit c = rw c.in-DpInit.is

pub returns-in-Immediate : goal.returns-in-Immediate
unfolding too_late view_of
returns-in-Immediate c = rw (c.in-Immediate.is, c.has_other_app_sel-changes.ensures, c.state_of.ensures) (and_both _ _)
