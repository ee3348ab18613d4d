use mathlib.Core.Path.{◌≡◌}
use Prim.Native.Nat.{ℕ, ◌+◌, ◌*◌, ◌/◌, ◌%◌, ◌<◌}
use native.Mathlib.Omega.{arith}
use Rattle.night_digits.proofs.Characters.{decimal_digit}
use Rattle.night_digits.proofs.two_digits.Goals as goal

low_byte : (a b : ℕ) → a < 10 → (0x3030 + a + 256 * b) % 256 ≡ 0x30 + a
low_byte a b h = omega arith

high_byte : (a b : ℕ) → a < 10 → b < 10 → (0x3030 + a + 256 * b) / 256 ≡ 0x30 + b
high_byte a b h g = omega arith

pub returns : goal.returns
returns c = let x = c.args.x in (
  rw (decimal_digit (x / 10) (omega arith)) (low_byte (x / 10) (x % 10) (omega arith)),
  rw (decimal_digit (x % 10) (omega arith)) (high_byte (x / 10) (x % 10) (omega arith) (omega arith)),
)
