use Rattle.bits.proofs.Tests.{or_implies}
use Rattle.sound_groups.proofs.agrees_if_in.Goals as goal

pub returns : goal.returns
returns c = rw (c.is_in.ensures, c.agrees.ensures, c.stage_at.ensures) (or_implies _ _)
