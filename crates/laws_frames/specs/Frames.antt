-- Which bytes two images share, and which values and lanes the laws of single registers speak of.
use Rattle.std.specs.Prelude.{◌≡◌, List, ◌⊎◌, ◌≢◌, ℕ, ◌+◌, ◌^◌, ◌≤◌, ◌<◌, Bool, false, length, get_or, take, eqb}
use Rattle.bits.specs.Choice.{pick}
use Rattle.bits.specs.Sets.{Lane}
use Rattle.model.specs.Numbers.{Byte, Bytes, Index, OnBits}
use Rattle.model.specs.Map.{Image, image_length, lasting_index, module_flags, command_status, reply_length, page10, state_bytes, status_bytes, pending_byte, flag_bytes, setting_count, setting_widths}
use Rattle.model.specs.Records.{on_at}
use Rattle.model.specs.State.{State}
use Rattle.model.specs.Flags.{condition_on, sampled_on}
use Rattle.model.specs.Access.{resets}
use Rattle.model.specs.View.{setting_values}
use Rattle.model.specs.declared.lane.Settings.{Settings}
use Rattle.model.specs.declared.event.Call.{Call}
use Rattle.model.specs.declared.event.Call.TheVariants.{Write, Read, Work, Hardware, Condition, Sample, Lasting, Module, Line}

-- ---- ranges of bytes

-- a byte lies below a range or above it
abbrev pub Beside : ℕ → ℕ → ℕ → Type 0
Beside lo hi i = (i < lo) ⊎ (hi ≤ i)

-- y has x's length, and x's bytes outside lo .. hi - 1
pub record SameOutside (lo hi : ℕ) (x y : List ℕ) : Type 0 where
  pub size : length y ≡ length x
  pub byte : (i : ℕ) → Beside lo hi i → get_or y i 0 ≡ get_or x i 0

-- y has x's bytes in lo .. hi - 1
abbrev pub SameWithin : ℕ → ℕ → List ℕ → List ℕ → Type 0
SameWithin lo hi x y = (i : ℕ) → lo ≤ i → i < hi → get_or y i 0 ≡ get_or x i 0

-- where DPState, ConfigStatus and DPInitPending end
abbrev pub state_end : Index
state_end = state_bytes + 4

abbrev pub status_end : Index
status_end = status_bytes + 4

abbrev pub pending_end : Index
pending_end = pending_byte + 1

-- what the module says of itself and nothing changes: the descriptors of lower memory, and pages 00h, 01h, 02h
abbrev pub Advertised : ℕ → Type 0
Advertised i = ((86 ≤ i) × (i < 118)) ⊎ ((128 ≤ i) × (i < page10))

-- y has x's bytes there
abbrev pub SameAdvertised : Image → Image → Type 0
SameAdvertised x y = (i : ℕ) → Advertised i → get_or y i 0 ≡ get_or x i 0

-- y has x's length, and x's bytes but for DPState, DPStateChanged and DPInitPending
pub record SameOffPath (x y : Image) : Type 0 where
  pub size : length y ≡ length x
  pub byte : (i : ℕ) → Beside state_bytes state_end i → Beside flag_bytes (flag_bytes + 1) i → Beside pending_byte pending_end i → get_or y i 0 ≡ get_or x i 0

-- y has x's length, and x's bytes but for lower 8, lower 37 and 9Fh:134-255
pub record SameOffCommand (x y : Image) : Type 0 where
  pub size : length y ≡ length x
  pub byte : (i : ℕ) → i ≢ module_flags → i ≢ command_status → Beside reply_length image_length i → get_or y i 0 ≡ get_or x i 0

-- ---- values and lanes

-- a value that fits a nibble
abbrev pub FitsNibble : Byte → Type 0
FitsNibble v = v < 16

-- settings that fit their fields
abbrev pub Fits : Settings → Type 0
Fits h = (k : ℕ) → k < setting_count → get_or (setting_values h) k 0 < 2 ^ get_or setting_widths k 0

-- lane m is another than lane l
abbrev pub OtherLane : Lane → Lane → Type 0
OtherLane l m = m ≢ l

-- ---- resets

-- an event that resets the module, unless it is refused: a write that asks for it
unfoldable pub is_reset : Bytes → Call → Bool
is_reset bytes (Write address count) = resets address (take count bytes) count
is_reset bytes (Read address count) = false
is_reset bytes (Work m) = false
is_reset bytes (Hardware m) = false
is_reset bytes (Condition flag mask) = false
is_reset bytes (Sample m p) = false
is_reset bytes (Lasting flag on off) = false
is_reset bytes Module = false
is_reset bytes (Line on) = false

-- ---- what is on

-- what is on for a lane after an event that is carried out: a reset ends it, a sample of the lane and a lasting condition have their say, and every other event
-- leaves it
unfoldable pub on_after : State → Bytes → Call → Lane → OnBits
on_after s bytes (Write address count) l = pick (is_reset bytes (Write address count)) 0 (on_at s.working l)
on_after s bytes (Read address count) l = on_at s.working l
on_after s bytes (Work m) l = on_at s.working l
on_after s bytes (Hardware m) l = on_at s.working l
on_after s bytes (Condition flag mask) l = on_at s.working l
on_after s bytes (Sample m p) l = pick (eqb m l) (sampled_on s.image p (on_at s.working l)) (on_at s.working l)
on_after s bytes (Lasting flag on off) l = condition_on (lasting_index flag) on off l (on_at s.working l)
on_after s bytes Module l = on_at s.working l
on_after s bytes (Line on) l = on_at s.working l
