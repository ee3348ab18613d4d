use Rattle.bits.specs.Place.{get}
use Rattle.bits.proofs.get.Goals as goal

pub returns : goal.returns
unfolding get
returns c = c.take_field.ensures
