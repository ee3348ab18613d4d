use Rattle.bits.proofs.Tests.{and_both}
use Rattle.map.proofs.meets_flags.Goals as goal

pub returns : goal.returns
returns c = and_both _ _
