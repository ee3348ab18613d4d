use mathlib.Core.Path.{◌≡◌}
use Prim.Native.Nat.{◌≤◌, ◌-◌}
use lib.ListN.{length}
use Rattle.bits.specs.Lane.{lane_field}
use Rattle.bits.specs.Loop.{each}
use Rattle.bits.specs.Place.{put}
use Rattle.bits.specs.Sets.{has}
use Rattle.bits_lanes.proofs.put_each.Given as goal

abbrev pub invariant-loop-lane : goal.invariant-loop-lane
invariant-loop-lane now = (now.lane ≤ 8) × (length now.image ≡ length now.initial.image) × (now.image ≡ each (has now.set) (λ l y. put y (lane_field now.base now.width l) now.v) now.lane now.initial.image)

abbrev pub decreases-loop-lane : goal.decreases-loop-lane
decreases-loop-lane l = 8 - l.lane
