use Rattle.model.specs.View.{app_sel}
use Rattle.view_paths.proofs.lanes_with_app.Goals as goal

pub returns : goal.returns
unfolding app_sel
returns c = c.lanes_with.ensures
