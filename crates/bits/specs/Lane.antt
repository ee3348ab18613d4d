-- Fields that every lane has. They lie side by side from a base byte on, lowest lane in the lowest bits: with width 1 a lane's bit of one byte,
-- with width 4 a nibble (the even lane low), with width 8 a byte of its own.
use Rattle.std.specs.Prelude.{ℕ, ◌+◌, ◌*◌, ◌/◌, ◌%◌, Bool, eqb}
use Rattle.bits.specs.Choice.{both, either}
use Rattle.bits.specs.Place.{apart}
use Rattle.bits.specs.Loop.{all_below}
use Rattle.bits.specs.declared.Place.{Place}

-- the place of a lane's field
unfoldable pub lane_field : ℕ → ℕ → ℕ → Place
lane_field base width lane =
    record { byte = base + lane * width / 8; shift = lane * width % 8; width = width }

-- of n lane fields, given by base and width, no two share a bit, and neither do two lanes of one: a test that is computed once over the whole table
unfoldable pub all_apart : ℕ → (ℕ → ℕ) → (ℕ → ℕ) → Bool
all_apart n base width =
    all_below n (λ j. all_below 8 (λ l. all_below n (λ k. all_below 8 (λ m.
    either (both (eqb j k) (eqb l m)) (apart (lane_field (base j) (width j) l) (lane_field (base k) (width k) m))))))
