use Rattle.model.specs.View.{path_id}
use Rattle.view_settings.proofs.path_id.Goals as goal

pub returns : goal.returns
unfolding path_id
returns c = c.take_field.ensures
