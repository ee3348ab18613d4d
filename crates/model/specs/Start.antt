-- Start, and the reset that starts the module anew (01 "Start", 02 Req 04).
use Rattle.std.specs.Prelude.{Bool, [], ◌∷◌, eqb, get_or}
use Rattle.bits.specs.Choice.{pick}
use Rattle.bits.specs.Loop.{tab}
use Rattle.model.specs.Numbers.{Byte, Index}
use Rattle.model.specs.Map.{Image, image_length, page11, module_state, module_controls, range_on, in_ranges, kept}
use Rattle.model.specs.Records.{idle_with, idle_working}
use Rattle.model.specs.State.{State}

-- lower 3: ModuleLowPwr, no interrupt (02 Req 04)
abbrev pub low_powered : Byte
low_powered = 0x03

-- lower 26: the low-power line may ask for low power (02 Req 04)
abbrev pub line_allowed : Byte
line_allowed = 0x40

-- 11h:128-131: two lanes a byte, all DPDeactivated
abbrev pub all_deactivated : Byte
all_deactivated = 0x11

unfoldable pub is_state_byte : Index → Bool
is_state_byte = in_ranges (range_on page11 128 131 ∷ [])

-- what start sets in a byte that it does not keep
unfoldable pub start_value : Index → Byte
start_value i = pick (eqb i module_state) low_powered (pick (eqb i module_controls) line_allowed (pick (is_state_byte i) all_deactivated 0))

unfoldable pub start_byte : Image → Index → Byte
start_byte x i = pick (kept i) (get_or x i 0) (start_value i)

unfoldable pub started_state : Image → State
started_state x = record { image = tab image_length (start_byte x); working = idle_working }

-- a reset: the registers as start makes them of what is kept, all lanes idle with nothing on, and the low-power line as it was
unfoldable pub reset_state : State → State
reset_state s = record { image = (started_state s.image).image; working = idle_with s.working.line }
