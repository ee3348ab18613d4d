-- The two runs of settings that are written one after the other are all of them. Assumes nothing.
use mathlib.Core.Path.{◌≡◌, refl}
use Prim.Native.Nat.{ℕ}
use Rattle.bits.specs.Choice.{only_if}
use Rattle.bits.specs.Loop.{each}
use Rattle.model.specs.Map.{Image}
use Rattle.model.specs.Work.{with_active}
use Rattle.model.specs.declared.lane.Settings.{Settings}
use Rattle.view_settings.specs.Parts.{with_part}

pub whole : (h : Settings) (l : ℕ) (x : Image) → with_part 4 4 h l (with_part 0 4 h l x) ≡ with_active h l x
unfolding with_active with_part each only_if
whole h l x = refl
