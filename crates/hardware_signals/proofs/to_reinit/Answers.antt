use Rattle.bits.proofs.Tests.{or_either}
use Rattle.model.specs.Hardware.{to_reinit}
use Rattle.hardware_signals.proofs.to_reinit.Goals as goal

pub returns : goal.returns
unfolding to_reinit
returns c = rw (c.to_deinit.ensures, c.some_bit.ensures) (or_either _ _)
