use mathlib.Core.Path.{refl}
use Rattle.model.specs.Work.{by_module}
use Rattle.view_settings.proofs.by_module.Goals as goal

pub returns : goal.returns
unfolding by_module
returns c = refl
