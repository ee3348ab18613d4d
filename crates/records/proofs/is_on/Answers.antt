use Rattle.bits.specs.Number.{field}
use Rattle.bits.specs.Sets.{has}
use Rattle.records.proofs.is_on.Goals as goal

pub returns : goal.returns
unfolding has field
returns c = rw c.pow2.ensures
