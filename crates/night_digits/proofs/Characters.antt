-- The characters of decimal digits: of one, and of four as one number, got from a number and its tenths. Assumes nothing.
use mathlib.Core.Path.{◌≡◌, refl}
use mathlib.Core.Bool.{true}
use mathlib.Core.List.{List, [], ◌∷◌}
use Prim.Native.Nat.{ℕ, ◌+◌, ◌*◌, ◌-◌, ◌/◌, ◌%◌, ◌≤◌, ◌<◌}
use native.Mathlib.Omega.{arith}
use borrow.Author.Tests.{lt-ltb, eqb-true}
use lib.Dec.{eqb}
use lib.ListN.{get_or}
use Rattle.bits.specs.Choice.{pick, both}
use Rattle.bits.specs.Loop.{all_below}
use Rattle.bits.proofs.Loops.{all_at}
use Rattle.model.specs.Text.{digit_text}

-- the sixteen characters, one after the other
abbrev digits : List ℕ
digits = 0x30 ∷ 0x31 ∷ 0x32 ∷ 0x33 ∷ 0x34 ∷ 0x35 ∷ 0x36 ∷ 0x37 ∷ 0x38 ∷ 0x39 ∷ 0x61 ∷ 0x62 ∷ 0x63 ∷ 0x64 ∷ 0x65 ∷ 0x66 ∷ []

every_digit : all_below 16 (λ d. eqb (get_or digits d 0) (digit_text d)) ≡ true
unfolding all_below both digit_text pick
every_digit = refl

pub digit_at : (d : ℕ) → d < 16 → get_or digits d 0 ≡ digit_text d
digit_at d h = eqb-true _ _ (all_at 16 _ every_digit d h)

pub decimal_digit : (d : ℕ) → d < 10 → digit_text d ≡ 0x30 + d
unfolding digit_text pick
decimal_digit d h = rw (lt-ltb d 10 h, pick)

-- four characters as one number
abbrev characters : ℕ → ℕ → ℕ → ℕ → ℕ
characters a b c d = 0x30 + a + 256 * (0x30 + b) + 65536 * (0x30 + c) + 16777216 * (0x30 + d)

module _ (a b c d : ℕ) (ha : a < 10) (hb : b < 10) (hc : c < 10) (hd : d < 10) where
  first : characters a b c d % 256 ≡ 0x30 + a
  first = omega arith

  second : characters a b c d / 256 % 256 ≡ 0x30 + b
  second = omega arith

  third : characters a b c d / 65536 % 256 ≡ 0x30 + c
  third = omega arith

  fourth : characters a b c d / 16777216 ≡ 0x30 + d
  fourth = omega arith

  fits : characters a b c d < 4294967296
  fits = omega arith

-- the number and its tenths come to the characters and what is taken away
abbrev pub over : ℕ → ℕ
over x = 2559 * (x / 1000) + 655104 * (x / 100) + 167706624 * (x / 10)

sum_of : (a b c d : ℕ) → 0x30303030 + 16777216 * (1000 * a + 100 * b + 10 * c + d) ≡ characters a b c d + (2559 * a + 655104 * (10 * a + b) + 167706624 * (100 * a + 10 * b + c))
sum_of a b c d = omega arith

balance : (x : ℕ) → 0x30303030 + 16777216 * x ≡ characters (x / 1000) (x / 100 % 10) (x / 10 % 10) (x % 10) + over x
balance x =
    let tenth : 100 * (x / 1000) + 10 * (x / 100 % 10) + x / 10 % 10 ≡ x / 10 = omega arith in
    let hundredth : 10 * (x / 1000) + x / 100 % 10 ≡ x / 100 = omega arith in
    let whole : 1000 * (x / 1000) + 100 * (x / 100 % 10) + 10 * (x / 10 % 10) + x % 10 ≡ x = omega arith in
    rw (tenth, hundredth, whole) at (sum_of (x / 1000) (x / 100 % 10) (x / 10 % 10) (x % 10))

taken-from : (m c o : ℕ) → m ≡ c + o → m - o ≡ c
taken-from m c o e = omega arith

within : (m c o : ℕ) → m ≡ c + o → o ≤ m
within m c o e = omega arith

as_characters : (x : ℕ) → 0x30303030 + 16777216 * x - over x ≡ characters (x / 1000) (x / 100 % 10) (x / 10 % 10) (x % 10)
as_characters x = taken-from _ _ (over x) (balance x)

-- the number of a number's four characters
abbrev pub four_text : ℕ → ℕ
four_text x = 0x30303030 + 16777216 * x - over x

pub over_within : (x : ℕ) → over x ≤ 0x30303030 + 16777216 * x
over_within x = within _ _ (over x) (balance x)

module _ (x : ℕ) (h : x < 10000) where
  one : x / 1000 < 10
  one = omega arith

  two : x / 100 % 10 < 10
  two = omega arith

  three : x / 10 % 10 < 10
  three = omega arith

  four : x % 10 < 10
  four = omega arith

  pub text-fits : four_text x < 4294967296
  text-fits = rw (as_characters x) (fits (x / 1000) (x / 100 % 10) (x / 10 % 10) (x % 10) one two three four)

  pub text_first : four_text x % 256 ≡ digit_text (x / 1000)
  text_first = rw (as_characters x, decimal_digit (x / 1000) one) (first (x / 1000) (x / 100 % 10) (x / 10 % 10) (x % 10) one two three four)

  pub text_second : four_text x / 256 % 256 ≡ digit_text (x / 100 % 10)
  text_second = rw (as_characters x, decimal_digit (x / 100 % 10) two) (second (x / 1000) (x / 100 % 10) (x / 10 % 10) (x % 10) one two three four)

  pub text_third : four_text x / 65536 % 256 ≡ digit_text (x / 10 % 10)
  text_third = rw (as_characters x, decimal_digit (x / 10 % 10) three) (third (x / 1000) (x / 100 % 10) (x / 10 % 10) (x % 10) one two three four)

  pub text_fourth : four_text x / 16777216 ≡ digit_text (x % 10)
  text_fourth = rw (as_characters x, decimal_digit (x % 10) four) (fourth (x / 1000) (x / 100 % 10) (x / 10 % 10) (x % 10) one two three four)
