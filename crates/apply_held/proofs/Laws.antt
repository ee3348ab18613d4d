-- Where the staged sets lie. Assumes nothing.
use mathlib.Core.Path.{◌≡◌}
use Prim.Native.Nat.{ℕ, ◌+◌, ◌≤◌}
use native.Mathlib.Omega.{arith}
use Rattle.model.specs.Map.{image_length, staged_base, set_length}
use Rattle.model.proofs.Triggers.{staged_base_lem}
use Rattle.model.specs.declared.lane.StagedSet.{StagedSet}

pub base_fits : (staged : StagedSet) (base : ℕ) → base ≡ staged_base staged → base + set_length ≤ image_length
base_fits staged base e = omega (arith, e, staged_base_lem staged)
