use Rattle.model.specs.Refusals.{is_flat}
use Rattle.start_image.proofs.is_flat.Goals as goal

pub returns : goal.returns
unfolding is_flat
returns c = rw c.get.ensures
