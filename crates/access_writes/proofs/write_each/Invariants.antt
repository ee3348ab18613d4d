use mathlib.Core.Path.{◌≡◌}
use Prim.Native.Nat.{◌+◌}
use lib.ListN.{drop}
use Rattle.model.specs.Access.{bytes_written_state}
use Rattle.model.specs.State.{state_with}
use Rattle.access_writes.proofs.write_each.Given as goal

abbrev pub invariant-loop-i : goal.invariant-loop-i
invariant-loop-i l =
    bytes_written_state l.address l.bytes (state_with l.initial.image l.initial.next) ≡ bytes_written_state (l.address + l.i) (drop l.i l.bytes) (state_with l.image l.next)
