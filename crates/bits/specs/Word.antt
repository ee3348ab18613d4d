-- Numbers of several bytes, the high byte first.
use Rattle.std.specs.Prelude.{ℕ, zero, suc, ◌+◌, ◌*◌, ◌/◌, ◌%◌, List, get_or, set}

-- the number in the n bytes from `at` on
unfoldable pub word : ℕ → List ℕ → ℕ → ℕ
word zero bytes at = 0
word (suc n) bytes at = word n bytes at * 256 + get_or bytes (at + n) 0

-- the list with v in the n bytes from `at` on
unfoldable pub put_word : ℕ → List ℕ → ℕ → ℕ → List ℕ
put_word zero bytes at v = bytes
put_word (suc n) bytes at v = set (put_word n bytes at (v / 256)) (at + n) (v % 256)
