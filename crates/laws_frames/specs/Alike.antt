-- Two byte lists that are the same but for some bits.
use Rattle.std.specs.Prelude.{ℕ, ◌≡◌, Bool, false, List, length}
use Rattle.bits.specs.Place.{digit}

-- lists of bytes of equal length that agree in every bit that is not excepted
pub record Alike (except : ℕ → ℕ → Bool) (xs ys : List ℕ) : Type 0 where
  pub size : length xs ≡ length ys
  pub bits : (i b : ℕ) → except i b ≡ false → digit xs i b ≡ digit ys i b
