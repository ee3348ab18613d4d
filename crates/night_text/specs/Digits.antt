-- Digits of a number, from its last on.
use Rattle.std.specs.Prelude.{ℕ, zero, suc, ◌/◌, ◌%◌, List, [], ◌∷◌, ◌++◌}
use Rattle.model.specs.Text.{digit_text}

-- the last n digits of a number, zeros in front of a shorter one
unfoldable pub digits_of : ℕ → ℕ → List ℕ
digits_of zero x = []
digits_of (suc n) x = digits_of n (x / 10) ++ (digit_text (x % 10) ∷ [])
