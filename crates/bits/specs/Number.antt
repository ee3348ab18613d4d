-- A run of binary digits of a number.
use Rattle.std.specs.Prelude.{ℕ, ◌+◌, ◌*◌, ◌/◌, ◌%◌, ◌^◌}

-- the bits s .. s + w - 1 of x
unfoldable pub field : ℕ → ℕ → ℕ → ℕ
field x s w = x / 2 ^ s % 2 ^ w

-- x with those bits replaced by the lowest w bits of v
unfoldable pub with_field : ℕ → ℕ → ℕ → ℕ → ℕ
with_field x s w v = x / 2 ^ (w + s) * 2 ^ (w + s) + (v % 2 ^ w * 2 ^ s + x % 2 ^ s)
