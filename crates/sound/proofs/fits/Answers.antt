use mathlib.Core.Path.{ap₂, ◌∙◌}
use Rattle.bits.specs.Choice.{both}
use Rattle.bits.proofs.Tests.{and_both}
use Rattle.sound.proofs.fits.Goals as goal

pub returns : goal.returns
returns c = and_both _ _ ∙ ap₂ both c.is_lane_sound.ensures c.on_fits.ensures
