use Rattle.model.specs.View.{is_used}
use Rattle.view_paths.proofs.used_at.Goals as goal

pub returns : goal.returns
unfolding is_used
returns c = rw c.app_at.ensures
