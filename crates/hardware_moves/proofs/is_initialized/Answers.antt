use Rattle.bits.proofs.Tests.{and_pick}
use Rattle.model.specs.Hardware.{is_initialized}
use Rattle.model.proofs.States.{path_state_is}
use Rattle.hardware_moves.proofs.is_initialized.Goals as goal

pub returns : goal.returns
unfolding is_initialized
returns c = rw (c.eq.ensures, c.eq-2.ensures, path_state_is, path_state_is) (and_pick _ _)
