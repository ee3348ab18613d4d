-- A set of lanes as a number: bit l is 1 where lane l is in it.
use Rattle.std.specs.Prelude.{ℕ, zero, suc, ◌+◌, ◌-◌, Bool, eqb, leb, ltb}
use mir.Val.{bool_byte}
use Rattle.bits.specs.Choice.{both, implies}
use Rattle.bits.specs.Number.{field, with_field}
use Rattle.bits.specs.Loop.{any_below, all_below, seek}

-- a lane, counted from 0, and a set of lanes: names for numbers, which change no meaning
abbrev pub Lane : Type 0
Lane = ℕ

abbrev pub LaneSet : Type 0
LaneSet = ℕ

-- the module's lanes (01 "The module we ship"): as many as a byte has bits
abbrev pub lane_count : ℕ
lane_count = 8

-- lane l is in the set
unfoldable pub has : LaneSet → Lane → Bool
has g l = eqb (field g l 1) 1

-- the lanes below n that pass the test
unfoldable pub mask_of : ℕ → (Lane → Bool) → LaneSet
mask_of zero p = 0
mask_of (suc n) p = with_field (mask_of n p) n 1 (bool_byte (p n))

-- the first lane of the set from k on, among n lanes; n if there is none
unfoldable pub next_in : ℕ → LaneSet → Lane → Lane
next_in n g k = seek (n - k) k (has g)

-- the first lane of a set
abbrev pub first_in : LaneSet → Lane
first_in g = next_in lane_count g 0

-- a lane of the set passes the test
unfoldable pub some_in : LaneSet → (Lane → Bool) → Bool
some_in g p = any_below lane_count (λ m. both (has g m) (p m))

-- every lane of the set passes the test
unfoldable pub every_in : LaneSet → (Lane → Bool) → Bool
every_in g p = all_below lane_count (λ m. implies (has g m) (p m))

-- lane m is one of f .. f + n - 1
unfoldable pub within : Lane → ℕ → Lane → Bool
within f n m = both (leb f m) (ltb m (f + n))
