use Rattle.flags.proofs.OneLane.{raised_by}
use Rattle.flags.proofs.raise.Goals as goal

pub returns : goal.returns
returns c = raised_by _ _ _ _ _ _ _ c.requires.1 c.on.ensures c.with_lane.ensures c.set_bits.ensures
