use Rattle.bits.specs.Place.{put}
use Rattle.bits.proofs.put.Goals as goal

pub returns : goal.returns
unfolding put
returns c = rw c.put_field.ensures
