use mathlib.Core.Path.{◌≡◌}
use Prim.Native.Nat.{◌*◌}
use Rattle.bits.specs.Loop.{tab}
use Rattle.model.specs.Outcome.{laid_over}
use Rattle.packing.specs.Packing.{record_length, packed_byte}
use Rattle.packing_state.proofs.pack.Given as goal

abbrev pub invariant-loop-lane : goal.invariant-loop-lane
invariant-loop-lane now = now.state ≡ laid_over (tab (now.lane * record_length) (packed_byte now.fn.w)) now.initial.state
