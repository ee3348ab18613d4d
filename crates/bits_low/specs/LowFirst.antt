-- Numbers of several bytes, the low byte first.
use Rattle.std.specs.Prelude.{ℕ, zero, suc, ◌+◌, ◌*◌, ◌^◌, List, get_or}

-- the number in the n bytes from `at` on
unfoldable pub low_first : ℕ → List ℕ → ℕ → ℕ
low_first zero bytes at = 0
low_first (suc n) bytes at = get_or bytes (at + n) 0 * 2 ^ (8 * n) + low_first n bytes at
