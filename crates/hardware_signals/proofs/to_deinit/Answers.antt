use Rattle.model.specs.Hardware.{to_deinit}
use Rattle.bits.proofs.Tests.{or_either}
use Rattle.hardware_signals.proofs.to_deinit.Goals as goal

pub returns : goal.returns
unfolding to_deinit
returns c = rw c.some_bit.ensures (or_either _ _)
