use Rattle.model.specs.Hardware.{signals_of}
use Rattle.hardware_signals.proofs.signals_of.Goals as goal

pub returns : goal.returns
unfolding signals_of
returns c = λ i. record {
  deinit = c.to_deinit-deinit.ensures i;
  reinit = c.to_reinit-reinit.ensures i;
  deactivate = c.to_deactivate-deactivate.ensures i;
}
