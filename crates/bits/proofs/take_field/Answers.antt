use Rattle.bits.specs.Number.{field}
use Rattle.bits.proofs.take_field.Goals as goal

pub returns : goal.returns
unfolding field
returns c = rw (c.pow2.ensures, c.pow2-2.ensures)
