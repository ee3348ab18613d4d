use mathlib.Core.Path.{ap, ◌∙◌}
use Rattle.model.specs.Power.{module_state_of, shown_module_state}
use Rattle.power_signals.proofs.shown_state.Goals as goal

pub returns : goal.returns
unfolding shown_module_state
returns c = c.from.ensures ∙ ap module_state_of c.get.ensures
