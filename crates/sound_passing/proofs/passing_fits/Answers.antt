use Rattle.model.specs.Sound.{passing_fits}
use Rattle.sound_passing.proofs.Choices.{four_by}
use Rattle.sound_passing.proofs.passing_fits.Goals as goal

pub returns-in-Pass : goal.returns-in-Pass
unfolding passing_fits
returns-in-Pass c = rw
    (c.in-Pass.is, c.has_purpose.ensures, c.rests.ensures, c.holds_copied.ensures, c.rest_is_whole.ensures)
    (four_by _ _ _ _)

pub returns-in-Reject : goal.returns-in-Reject
unfolding passing_fits
returns-in-Reject c = rw c.in-Reject.is
