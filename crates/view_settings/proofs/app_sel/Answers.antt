use Rattle.model.specs.View.{app_sel}
use Rattle.view_settings.proofs.app_sel.Goals as goal

pub returns : goal.returns
unfolding app_sel
returns c = c.take_field.ensures
