-- Sets of image bits, and what it means that a change stays within one.
use Rattle.std.specs.Prelude.{◌≡◌, Bool, false, ℕ, length}
use Rattle.bits.specs.Choice.{both, either}
use Rattle.bits.specs.Lane.{lane_field}
use Rattle.bits.specs.Loop.{any_below}
use Rattle.bits.specs.Place.{digit, covers}
use Rattle.model.specs.Map.{Image, page11, on, interrupt_bit, active_set, setting_count, setting_at}
use Rattle.bits.specs.Sets.{lane_count}

-- a set of bits of the image, by byte and bit
abbrev pub Bits : Type 0
Bits = ℕ → ℕ → Bool

-- the images have the same length, and every bit outside the set is the same in both
pub record ChangesOnly (may : Bits) (before after : Image) : Type 0 where
  pub size : length after ≡ length before
  pub others : (i b : ℕ) → may i b ≡ false → digit after i b ≡ digit before i b

-- ---- sets of bits

-- the bits of one set or the other
unfoldable pub or_in : Bits → Bits → Bits
or_in p q i b = either (p i b) (q i b)

-- the bits of the bytes that pass the test
unfoldable pub in_bytes : (ℕ → Bool) → Bits
in_bytes c i b = c i

-- the bits of the lane fields at a base, of a width, of the lanes that pass the test
unfoldable pub in_lanes : (ℕ → Bool) → ℕ → ℕ → Bits
in_lanes c base width i b = any_below lane_count (λ l. both (c l) (covers (lane_field base width l) i b))

-- lower 3.0
unfoldable pub interrupt_set : Bits
interrupt_set = covers interrupt_bit

-- 11h:202-205: ConfigStatus of the lanes that pass the test
unfoldable pub status_set : (ℕ → Bool) → Bits
status_set c = in_lanes c (on page11 202) 4

-- 11h:128-131: DPState of the lanes that pass the test
unfoldable pub state_set : (ℕ → Bool) → Bits
state_set c = in_lanes c (on page11 128) 4

-- the bits of a flag byte of 11h of the lanes that pass the test
unfoldable pub flag_set : ℕ → (ℕ → Bool) → Bits
flag_set address c = in_lanes c (on page11 address) 1

-- 11h:235: DPInitPending of the lanes that pass the test
unfoldable pub pending_set : (ℕ → Bool) → Bits
pending_set c = in_lanes c (on page11 235) 1

-- the eight active settings of a lane
unfoldable pub active_of : ℕ → Bits
active_of l i b = any_below setting_count (λ k. covers (setting_at active_set k l) i b)
