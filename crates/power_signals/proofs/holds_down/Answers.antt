use Rattle.bits.proofs.Tests.{or_either}
use Rattle.model.specs.Power.{holds_down}
use Rattle.model.proofs.States.{module_state_is}
use Rattle.power_signals.proofs.holds_down.Goals as goal

pub returns : goal.returns
unfolding holds_down
returns c = rw (c.is_low_power.ensures, c.ne.ensures, module_state_is, c.shown_state.ensures) (or_either _ _)
