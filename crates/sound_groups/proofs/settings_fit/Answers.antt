use native.Mathlib.Omega.{arith}
use Rattle.sound_groups.proofs.Fits.{fit_by}
use Rattle.sound_groups.proofs.settings_fit.Goals as goal

pub returns : goal.returns
returns c = fit_by _ (omega arith)
