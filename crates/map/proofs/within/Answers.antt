use Rattle.bits.proofs.Tests.{and_both}
use Rattle.map.proofs.within.Goals as goal

pub returns : goal.returns
returns c = and_both _ _
