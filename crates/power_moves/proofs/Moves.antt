-- What entering a state and a module event leave, step by step. Assumes nothing.
use mathlib.Core.Path.{◌≡◌}
use mathlib.Core.Bool.{Bool}
use Rattle.bits.specs.Choice.{only_if}
use Rattle.bits.specs.Place.{put}
use Rattle.model.specs.Numbers.{Code}
use Rattle.model.specs.Map.{Image, module_state_bits, module_changed_bit}
use Rattle.model.specs.Power.{module_code_of, shown_module_state, is_low_power, is_dark, next_module_state, is_flagged, module_entered_image, module_moved_image, module_image}
use Rattle.model.specs.declared.power.ModuleState.{ModuleState}

pub entered_by : (to : ModuleState) (low : Bool) (v : Code) (x y z : Image) → v ≡ module_code_of to → y ≡ put x module_state_bits v
    → z ≡ only_if (is_flagged to low) (λ u. put u module_changed_bit 1) y → z ≡ module_entered_image to low x
unfolding module_entered_image
entered_by to low v x y z p q r = rw (r, q, p)

pub moved_by : (line low dark : Bool) (from to : ModuleState) (x y : Image) → from ≡ shown_module_state x → low ≡ is_low_power line x → dark ≡ is_dark x
    → to ≡ next_module_state from low dark → y ≡ module_moved_image from to low x → y ≡ module_image line x
unfolding module_image
moved_by line low dark from to x y hf hl hd ht hy = rw (hy, ht, hd, hl, hf)
