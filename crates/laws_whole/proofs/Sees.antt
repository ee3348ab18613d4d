-- The view of two images that hold the same bytes beside the active settings. Assumes nothing.
use mathlib.Core.Path.{◌≡◌}
use mathlib.Core.List.{List}
use Prim.Native.Nat.{ℕ, ◌<◌}
use native.Mathlib.Omega.{arith}
use Rattle.bits.proofs.Loops.{tab_at}
use Rattle.model.specs.Map.{Image, active_set}
use Rattle.model.specs.Records.{no_settings}
use Rattle.model.specs.View.{View, view_of, of, settings_at, settings_of}
use Rattle.model.specs.declared.lane.Settings.{Settings}
use Rattle.laws_frames.proofs.Registers.{settings-same, states-same, limits-same, advertised_between, applications-same}
use Rattle.laws_frames.specs.Frames.{SameWithin}
use Rattle.model.proofs.Triggers.{StagedBase}

-- the active settings of all lanes
abbrev pub active_of : Image → List Settings
active_of x = settings_of active_set x

pub active_at : (x : Image) (l : ℕ) → l < 8 → of (active_of x) l ≡ settings_at active_set x l
unfolding settings_of
active_at x l h = tab_at 8 (settings_at active_set x) l no_settings h

-- a view with other active settings
abbrev pub swap : View → List Settings → View
swap v active = record { active = active; staged = v.staged; states = v.states; applications = v.applications; limits = v.limits }

pub view_same : (base : ℕ) (x y : Image) → StagedBase base → SameWithin 4 active_set x y → view_of base y ≡ swap (view_of base x) (active_of y)
unfolding view_of
view_same base x y l h = rw (
  settings-same base x y (λ i a b. h i (omega arith) (omega arith)),
  states-same x y (λ i a b. h i (omega arith) (omega arith)),
  limits-same x y (λ i a b. h i (omega arith) (omega arith)),
  applications-same x y (λ i d. let b = advertised_between i d in h i (omega (arith, b)) (omega (arith, b))),
)
