use Rattle.model.specs.View.{is_used}
use Rattle.view_settings.proofs.is_used.Goals as goal

pub returns : goal.returns
unfolding is_used
returns c = rw (← c.app_sel.ensures)
