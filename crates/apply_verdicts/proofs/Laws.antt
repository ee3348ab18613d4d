-- The verdict on no lanes; and a release is judged by the active settings alone. Assumes nothing.
use mathlib.Core.Path.{◌≡◌, refl}
use mathlib.Core.Bool.{false}
use Prim.Native.Nat.{ℕ, ◌≤◌}
use Rattle.bits.specs.Choice.{pick}
use Rattle.bits.specs.Number.{field}
use Rattle.bits.proofs.Loops.{tab_past}
use Rattle.model.specs.Map.{Image, active_set}
use Rattle.model.specs.Records.{no_settings}
use Rattle.model.specs.View.{app_sel, of, is_used, settings_at, settings_of, view_of}
use Rattle.bits.specs.Sets.{first_in}
use Rattle.model.specs.Verdicts.{passed, path_release, release_verdict, verdict_of}
use Rattle.model.specs.declared.lane.Trigger.{Trigger}

-- past the last lane nothing is used
unused_past : (base : ℕ) (x : Image) (l : ℕ) → 8 ≤ l → is_used (of (settings_of base x) l) ≡ false
unfolding settings_of is_used app_sel field
unused_past base x l h = rw (tab_past 8 (settings_at base x) l no_settings h)

pub verdict-none : (t : Trigger) (base : ℕ) (x : Image) (g : ℕ) → 8 ≤ first_in g → passed g ≡ verdict_of t (view_of base x) g
unfolding verdict_of release_verdict view_of pick
verdict-none t base x g h = rw (unused_past base x (first_in g) h, pick, unused_past active_set x (first_in g) h, pick)

pub release_any_set : (base other : ℕ) (x : Image) (g : ℕ) → release_verdict (view_of base x) g ≡ release_verdict (view_of other x) g
unfolding release_verdict path_release view_of
release_any_set base other x g = refl
