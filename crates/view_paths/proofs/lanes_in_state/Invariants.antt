use mathlib.Core.Path.{◌≡◌}
use Prim.Native.Nat.{◌≤◌, ◌-◌}
use lib.Dec.{eqb}
use Rattle.bits.specs.Sets.{mask_of, lane_count}
use Rattle.model.specs.View.{state_in, states_of}
use Rattle.view_paths.proofs.lanes_in_state.Given as goal

abbrev pub invariant-loop-lane : goal.invariant-loop-lane
invariant-loop-lane l = (l.lane ≤ lane_count) × (l.found ≡ mask_of l.lane (λ m. eqb (state_in (states_of l.image) m) l.state))

abbrev pub decreases-loop-lane : goal.decreases-loop-lane
decreases-loop-lane l = lane_count - l.lane
