-- A view's list of settings, lane by lane. Assumes nothing.
use mathlib.Core.Path.{◌≡◌}
use Prim.Native.Nat.{ℕ, ◌<◌}
use Rattle.bits.proofs.Loops.{tab_at}
use Rattle.model.specs.Map.{Image}
use Rattle.bits.specs.Sets.{lane_count}
use Rattle.model.specs.View.{of, settings_at, settings_of}

pub settings-of : (base : ℕ) (x : Image) (l : ℕ) → l < lane_count → of (settings_of base x) l ≡ settings_at base x l
unfolding settings_of
settings-of base x l h = tab_at lane_count (settings_at base x) l _ h
