use mathlib.Core.List.{[]}
use Rattle.door_events.proofs.Same.{same_write}
use Rattle.door_calls.proofs.Calls.{left_same}
use Rattle.firmware_door.proofs.registers_write.Goals as goal

pub returns : goal.returns
returns c = left_same _ _ _ _ _ _ _ _ _ (λ s. same_write s _ c.args.bytes.now []) (rw c.write.ensures at c.without_buffer.ensures)
