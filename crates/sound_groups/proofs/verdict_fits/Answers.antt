use Rattle.bits.proofs.Tests.{and_both, or_either}
use Rattle.model.specs.Sound.{verdict_fits}
use Rattle.sound_groups.proofs.verdict_fits.Goals as goal

pub returns-in-Pass : goal.returns-in-Pass
unfolding verdict_fits
returns-in-Pass c = rw (c.in-Pass.is, c.is_lane_of.ensures) (or_either _ _)

pub returns-in-Reject : goal.returns-in-Reject
unfolding verdict_fits
returns-in-Reject c = rw c.in-Reject.is (and_both _ _)
