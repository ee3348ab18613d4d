use Rattle.bits.specs.Sets.{has}
use Rattle.bits_sets.proofs.is_in.Goals as goal

pub returns : goal.returns
unfolding has
returns c = rw c.take_field.ensures
