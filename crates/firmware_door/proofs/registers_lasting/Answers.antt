use mathlib.Core.Path.{refl}
use Rattle.model.specs.Step.{event_effect}
use Rattle.door_calls.proofs.Calls.{left_asked}
use Rattle.firmware_door.proofs.registers_lasting.Goals as goal

pub returns : goal.returns
unfolding event_effect
returns c = left_asked _ _ _ _ _ _ _ _ _ c.from.ensures (λ s. refl) c.without_buffer.ensures
