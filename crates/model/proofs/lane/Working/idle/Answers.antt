use Rattle.bits.specs.Loop.{tab}
use Rattle.model.proofs.lane.Working.idle.Goals as goal

pub returns : goal.returns
unfolding tab
returns c = rw c.idle.ensures
