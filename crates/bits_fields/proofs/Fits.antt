-- A place that is a lane's field lies in an image that holds the fields of all lanes. Assumes nothing.
use mathlib.Core.Path.{◌≡◌}
use Prim.Native.Nat.{ℕ, ◌+◌, ◌%◌, ◌≤◌, ◌<◌}
use Rattle.bits.specs.Lane.{lane_field}
use Rattle.bits.specs.declared.Place.{Place}
use Rattle.bits.proofs.Lanes.{lane-fits}

pub field_fits : (base w lane n : ℕ) (p : Place) → p ≡ lane_field base w lane → base + w ≤ n → lane < 8 → 8 % w ≡ 0 → (p.byte < n) × (p.width + p.shift ≤ 8)
field_fits base w lane n p e f l d = rw e (lane-fits base w lane n f l d)
