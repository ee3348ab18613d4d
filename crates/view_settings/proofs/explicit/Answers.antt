use Rattle.model.specs.View.{explicit}
use Rattle.view_settings.proofs.explicit.Goals as goal

pub returns : goal.returns
unfolding explicit
returns c = c.take_field.ensures
