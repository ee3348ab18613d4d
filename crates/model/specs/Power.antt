-- Power: the module's own states, what moves it from one to the next, and when it holds every path down (02 Req 04; 002 section 6.3.2).
use Rattle.std.specs.Prelude.{Bool, true, false, not, eqb}
use Rattle.bits.specs.Choice.{pick, only_if, both, either}
use Rattle.bits.specs.Loop.{all_below}
use Rattle.bits.specs.Place.{get, put}
use Rattle.bits.specs.Sets.{lane_count}
use Rattle.model.specs.Numbers.{Code}
use Rattle.model.specs.Map.{Image, module_state_bits, module_changed_bit, low_pwr_allow_bit, low_pwr_request_bit, state_at}
use Rattle.model.specs.PathStates.{code_of}
use Rattle.model.specs.declared.path.PathState.TheVariants.{Deactivated}
use Rattle.model.specs.declared.power.ModuleState.{ModuleState}
use Rattle.model.specs.declared.power.ModuleState.TheVariants.{Other, LowPwr, PwrUp, Ready, PwrDn}

-- ---- the states (002 table 8-7)

abbrev pub module_code_of : ModuleState → Code
module_code_of Other = 0
module_code_of LowPwr = 1
module_code_of PwrUp = 2
module_code_of Ready = 3
module_code_of PwrDn = 4

unfoldable pub module_state_of : Code → ModuleState
module_state_of n = pick (eqb n 1) LowPwr (pick (eqb n 2) PwrUp (pick (eqb n 3) Ready (pick (eqb n 4) PwrDn Other)))

-- the state that lower 3 shows
unfoldable pub shown_module_state : Image → ModuleState
shown_module_state x = module_state_of (get x module_state_bits)

unfoldable pub is_module_state : ModuleState → ModuleState → Bool
is_module_state a b = eqb (module_code_of a) (module_code_of b)

-- ---- what is looked at

-- LowPwrS: the host asks for low power, or allows the low-power line to ask and the line is on
unfoldable pub is_low_power : Bool → Image → Bool
is_low_power line x = either (eqb (get x low_pwr_request_bit) 1) (both (eqb (get x low_pwr_allow_bit) 1) line)

-- every lane is DPDeactivated, whether it is used, in progress or neither
unfoldable pub is_dark : Image → Bool
is_dark x = all_below lane_count (λ l. eqb (get x (state_at l)) (code_of Deactivated))

-- the module holds every path down: it is not in ModuleReady, or it is to be in low power (002 equation 6-6)
unfoldable pub holds_down : Bool → Image → Bool
holds_down line x = either (not (is_module_state (shown_module_state x) Ready)) (is_low_power line x)

-- ---- the module event: one state on

-- the state that follows, by LowPwrS and by whether every lane is DPDeactivated
unfoldable pub next_module_state : ModuleState → Bool → Bool → ModuleState
next_module_state Other low dark = Other
next_module_state LowPwr low dark = pick low LowPwr PwrUp
next_module_state PwrUp low dark = pick low PwrDn Ready
next_module_state Ready low dark = pick (both low dark) PwrDn Ready
next_module_state PwrDn low dark = LowPwr

-- entering a state sets 8.0: ModuleReady does, and ModuleLowPwr where LowPwrS holds
unfoldable pub is_flagged : ModuleState → Bool → Bool
is_flagged Other low = false
is_flagged LowPwr low = low
is_flagged PwrUp low = false
is_flagged Ready low = true
is_flagged PwrDn low = false

-- the module enters a state
unfoldable pub module_entered_image : ModuleState → Bool → Image → Image
module_entered_image to low x = only_if (is_flagged to low) (λ y. put y module_changed_bit 1) (put x module_state_bits (module_code_of to))

-- one that stays enters nothing
unfoldable pub module_moved_image : ModuleState → ModuleState → Bool → Image → Image
module_moved_image from to low x = only_if (not (is_module_state from to)) (module_entered_image to low) x

unfoldable pub module_image : Bool → Image → Image
module_image line x =
    module_moved_image (shown_module_state x) (next_module_state (shown_module_state x) (is_low_power line x) (is_dark x)) (is_low_power line x) x
