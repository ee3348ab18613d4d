-- A run of a lane's active settings replaced: writing all of them is writing one run after the other.
use Rattle.std.specs.Prelude.{ℕ, ◌+◌, true, get_or}
use Rattle.bits.specs.Loop.{each}
use Rattle.bits.specs.Place.{put}
use Rattle.model.specs.Map.{Image, active_set, setting_at}
use Rattle.model.specs.View.{setting_values}
use Rattle.model.specs.declared.lane.Settings.{Settings}

-- n settings from `first` on, in the order of the map
unfoldable pub with_part : ℕ → ℕ → Settings → ℕ → Image → Image
with_part first n h l x =
    each (λ k. true) (λ k y. put y (setting_at active_set (first + k) l) (get_or (setting_values h) (first + k) 0)) n x
