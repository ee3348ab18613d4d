use mathlib.Core.Path.{refl}
use Rattle.model.specs.Step.{event_effect}
use Rattle.calls.proofs.Calls.{bytes-unused}
use Rattle.registers.proofs.work.Goals as goal

pub returns : goal.returns
unfolding event_effect
returns c = bytes-unused _ _ _ _ _ _ _ c.from.ensures refl c.without_buffer.ensures
