use mathlib.Core.Path.{◌≡◌}
use Prim.Native.Nat.{◌≤◌, ◌-◌}
use Rattle.bits.specs.Sets.{next_in}
use Rattle.bits_sets.proofs.next_in.Given as goal

abbrev pub invariant-loop-lane : goal.invariant-loop-lane
invariant-loop-lane l = (l.lane ≤ 8) × (next_in 8 l.set l.from ≡ next_in 8 l.set l.lane)

abbrev pub decreases-loop-lane : goal.decreases-loop-lane
decreases-loop-lane l = 8 - l.lane
