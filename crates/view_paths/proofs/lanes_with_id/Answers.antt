use Rattle.model.specs.View.{path_id}
use Rattle.view_paths.proofs.lanes_with_id.Goals as goal

pub returns : goal.returns
unfolding path_id
returns c = c.lanes_with.ensures
