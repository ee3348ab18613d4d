use Rattle.model.specs.Sound.{group_fits}
use Rattle.sound_passing.proofs.group_fits.Goals as goal

pub returns-in-None : goal.returns-in-None
unfolding group_fits
returns-in-None c = rw c.in-None.is

pub returns-in-Some : goal.returns-in-Some
unfolding group_fits
returns-in-Some c = rw c.in-Some.is c.passing_fits.ensures
