use mathlib.Core.Path.{ap, ◌∙◌}
use Rattle.bits.specs.Choice.{either}
use Rattle.bits.proofs.Tests.{or_either}
use Rattle.model.specs.Hardware.{to_deactivate}
use Rattle.hardware_signals.proofs.to_deactivate.Goals as goal

pub returns : goal.returns
unfolding to_deactivate
returns c = rw (c.some_bit-disabled.ensures, c.some_bit-squelched.ensures, c.to_reinit.ensures) (or_either _ _ ∙ ap (either _) (or_either _ _))
