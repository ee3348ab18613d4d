use mathlib.Core.Path.{ap₂, ◌∙◌}
use Rattle.bits.specs.Choice.{both}
use Rattle.bits.proofs.Tests.{and_both}
use Rattle.model.specs.Sound.{stage_fits}
use Rattle.sound_groups.proofs.stage_fits.Goals as goal

pub returns-in-None : goal.returns-in-None
unfolding stage_fits
returns-in-None c = rw c.in-None.is

pub returns-in-Some : goal.returns-in-Some
unfolding stage_fits
returns-in-Some c = rw
    (c.in-Some.is, c.is_in.ensures, c.all_agree.ensures, c.settings_fit.ensures, c.verdict_fits.ensures)
    (and_both _ _ ∙ ap₂ both (and_both _ _) (and_both _ _))
