-- The nibbles of a set's lanes in a number of 32 bits: lane l's are the bits 4 l .. 4 l + 3.
use Rattle.std.specs.Prelude.{ℕ, ◌+◌, ◌/◌, ◌%◌, List, set}
use Rattle.bits.specs.Sets.{LaneSet, has, mask_of}

-- the bits of the nibbles of a set's lanes
unfoldable pub nibbles_of : LaneSet → ℕ
nibbles_of s = mask_of 32 (λ b. has s (b / 4))

-- a number put into four bytes, the low byte first
unfoldable pub put_low4 : List ℕ → ℕ → ℕ → List ℕ
put_low4 x at v = set (set (set (set x at (v % 256)) (at + 1) (v / 256 % 256)) (at + 2) (v / 65536 % 256)) (at + 3) (v / 16777216)
