use mathlib.Core.Path.{ap, ◌∙◌}
use Rattle.bits.specs.Choice.{either}
use Rattle.bits.specs.Place.{get}
use Rattle.bits.proofs.Tests.{and_both, or_either}
use Rattle.model.specs.Power.{is_low_power}
use Rattle.power_signals.proofs.is_low_power.Goals as goal

pub returns : goal.returns
unfolding is_low_power get
returns c = rw (c.take_field-requested.ensures, c.take_field-allowed.ensures) (or_either _ _ ∙ ap (either _) (and_both _ _))
