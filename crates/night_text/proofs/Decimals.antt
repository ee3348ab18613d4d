-- Laws of decimals: how many digits there are, and their parts of two and of four digits. Assumes nothing.
use mathlib.Core.Path.{◌≡◌, refl, sym, ◌∙◌}
use mathlib.Core.List.{List, [], ◌∷◌, ◌++◌}
use Prim.Native.Nat.{ℕ, zero, suc, ◌+◌, ◌/◌, ◌%◌, ◌^◌, ◌≤◌, ◌<◌}
use native.Mathlib.Nat.{mod-eq_of_lt, pow-suc}
use native.Mathlib.Numerals.{add-one}
use native.Mathlib.Decide.{dec_lt}
use native.Mathlib.Omega.{arith}
use lib.Dec.{ltb}
use lib.ListN.{length, length-append}
use borrow.Author.Tests.{lt-ltb, le-ltb}
use Rattle.bits.specs.Choice.{pick}
use Rattle.bits.proofs.Tests.{split}
use Rattle.model.specs.Text.{digit_text, decimal_up_to, decimal}
use Rattle.night_text.specs.Digits.{digits_of}

append_four : (xs : List ℕ) (a b c d : ℕ) → xs ++ (a ∷ []) ++ (b ∷ []) ++ (c ∷ []) ++ (d ∷ []) ≡ xs ++ (a ∷ b ∷ c ∷ d ∷ [])
append_four [] a b c d = refl
append_four (x ∷ xs) a b c d = rw (append_four xs a b c d)

-- how many there are: as many as there is room for at most
pub count_up_to : (n x : ℕ) → length (decimal_up_to n x) ≤ n
unfolding decimal_up_to pick
count_up_to zero x = omega arith
count_up_to (suc n) x = split (ltb x 10)
    (λ e. rw (e, pick) (omega arith))
    (λ e. rw (e, pick) (omega (arith, length-append (decimal_up_to n (x / 10)) (digit_text (x % 10) ∷ []), count_up_to n (x / 10))))

-- .. one below ten, else one more than of a tenth
pub count_last : (n x : ℕ) → x < 10 → length (decimal_up_to (suc n) x) ≡ 1
unfolding decimal_up_to pick
count_last n x h = rw (lt-ltb x 10 h, pick)

count_more : (n x : ℕ) → 10 ≤ x → length (decimal_up_to (suc n) x) ≡ suc (length (decimal_up_to n (x / 10)))
unfolding decimal_up_to pick
count_more n x h = rw (le-ltb x 10 h, pick, length-append (decimal_up_to n (x / 10)) (digit_text (x % 10) ∷ []), add-one)

-- a number below a power of ten has at most as many digits
pub count_most : (k n x : ℕ) → x < 10 ^ suc k → length (decimal_up_to n x) ≤ suc k
unfolding decimal_up_to
count_most k zero x h = omega arith
count_most zero (suc n) x h = omega (arith, count_last n x h)
count_most (suc k) (suc n) x h = elim (dec_lt x 10) [
  | yes l ↦ omega (arith, count_last n x l)
  | no l ↦ omega (arith, count_more n x (omega arith), count_most k n (x / 10) (omega (arith, pow-suc 10 (suc k))))
]

-- a decimal's last digit, and what is before it
up_to-one : (n x : ℕ) → x < 10 → decimal_up_to (suc n) x ≡ digit_text x ∷ []
unfolding decimal_up_to pick
up_to-one n x h = rw (lt-ltb x 10 h, pick)

up_to_more : (n x : ℕ) → 10 ≤ x → decimal_up_to (suc n) x ≡ decimal_up_to n (x / 10) ++ (digit_text (x % 10) ∷ [])
unfolding decimal_up_to pick
up_to_more n x h = rw (le-ltb x 10 h, pick)

pub decimal-one : (x : ℕ) → x < 10 → decimal x ≡ digit_text x ∷ []
unfolding decimal
decimal-one x h = up_to-one 9 x h

-- a number of so many digits is its last ones
up_to-digit : (n x : ℕ) → x < 10 → decimal_up_to (suc n) x ≡ digits_of 1 x
unfolding digits_of
up_to-digit n x h =
    let r : x % 10 ≡ x = mod-eq_of_lt h in
    rw r (up_to-one n x h)

up_to_digits : (n k x : ℕ) → 10 ≤ x → decimal_up_to n (x / 10) ≡ digits_of k (x / 10) → decimal_up_to (suc n) x ≡ digits_of (suc k) x
unfolding digits_of
up_to_digits n k x h e = rw (up_to_more n x h, e)

pub decimal_two : (x : ℕ) → 9 < x → x < 100 → decimal x ≡ digits_of 2 x
unfolding decimal
decimal_two x l h = up_to_digits 9 1 x (omega arith) (up_to-digit 8 (x / 10) (omega arith))

pub decimal-three : (x : ℕ) → 99 < x → x < 1000 → decimal x ≡ digits_of 3 x
unfolding decimal
decimal-three x l h = up_to_digits 9 2 x (omega arith) (up_to_digits 8 1 (x / 10) (omega arith) (up_to-digit 7 (x / 10 / 10) (omega arith)))

pub decimal_four : (x : ℕ) → 999 < x → x < 10000 → decimal x ≡ digits_of 4 x
unfolding decimal
decimal_four x l h =
    up_to_digits 9 3 x (omega arith) (up_to_digits 8 2 (x / 10) (omega arith) (up_to_digits 7 1 (x / 10 / 10) (omega arith) (up_to-digit 6 (x / 10 / 10 / 10) (omega arith))))

-- its last two, behind those before them
pub three_parts : (x : ℕ) → x < 1000 → digits_of 3 x ≡ (digit_text (x / 100) ∷ []) ++ digits_of 2 (x % 100)
unfolding digits_of
three_parts x h =
    let a : x / 10 / 10 % 10 ≡ x / 100 = omega arith in
    let b : x / 10 % 10 ≡ x % 100 / 10 % 10 = omega arith in
    let c : x % 10 ≡ x % 100 % 10 = omega arith in
    rw (a, b, c)

-- room for a digit more than a number has changes nothing
up_to_less : (k x : ℕ) → x < 10 ^ suc k → decimal_up_to (suc (suc k)) x ≡ decimal_up_to (suc k) x
up_to_less zero x h = up_to-one 1 x h ∙ sym (up_to-one 0 x h)
up_to_less (suc k) x h = elim (dec_lt x 10) [
  | yes l ↦ up_to-one (suc (suc k)) x l ∙ sym (up_to-one (suc k) x l)
  | no l ↦ rw (up_to_more (suc (suc k)) x (omega arith), up_to_more (suc k) x (omega arith), up_to_less k (x / 10) (omega (arith, pow-suc 10 (suc k))))
]

decimal_six : (x : ℕ) → x < 1000000 → decimal_up_to 6 x ≡ decimal x
unfolding decimal
decimal_six x h =
    sym (up_to_less 8 x (omega arith) ∙ up_to_less 7 x (omega arith) ∙ up_to_less 6 x (omega arith) ∙ up_to_less 5 x (omega arith))

-- a decimal's last four digits, behind those before them
pub decimal_parts : (x : ℕ) → 10000 ≤ x → x < 10000000000 → decimal x ≡ decimal (x / 10000) ++ digits_of 4 (x % 10000)
unfolding decimal digits_of
decimal_parts x l h =
    let q : x / 10 / 10 / 10 / 10 ≡ x / 10000 = omega arith in
    let a : x / 10 / 10 / 10 % 10 ≡ x % 10000 / 10 / 10 / 10 % 10 = omega arith in
    let b : x / 10 / 10 % 10 ≡ x % 10000 / 10 / 10 % 10 = omega arith in
    let c : x / 10 % 10 ≡ x % 10000 / 10 % 10 = omega arith in
    let d : x % 10 ≡ x % 10000 % 10 = omega arith in
    up_to_more 9 x (omega arith)
    ∙ rw (
      up_to_more 8 (x / 10) (omega arith),
      up_to_more 7 (x / 10 / 10) (omega arith),
      up_to_more 6 (x / 10 / 10 / 10) (omega arith),
      q,
      decimal_six (x / 10000) (omega arith),
      a,
      b,
      c,
      d,
    )
    (append_four (decimal_up_to 10 (x / 10000)) _ _ _ _)

pub two_digits : (x low high : ℕ) → x < 100 → low ≡ digit_text (x / 10) → high ≡ digit_text (x % 10) → digits_of 2 x ≡ low ∷ high ∷ []
unfolding digits_of
two_digits x low high h e f =
    let a : x / 10 % 10 ≡ x / 10 = omega arith in
    rw (a, e, f)

-- .. and four
pub four_digits : (x a b c d : ℕ) → x < 10000 → a ≡ digit_text (x / 1000) → b ≡ digit_text (x / 100 % 10) → c ≡ digit_text (x / 10 % 10) → d ≡ digit_text (x % 10)
    → digits_of 4 x ≡ a ∷ b ∷ c ∷ d ∷ []
unfolding digits_of
four_digits x a b c d h ea eb ec ed =
    let p : x / 10 / 10 / 10 % 10 ≡ x / 1000 = omega arith in
    let q : x / 10 / 10 % 10 ≡ x / 100 % 10 = omega arith in
    rw (p, q, ea, eb, ec, ed)

-- how many digits there are in parts
pub length_digits : (n x : ℕ) → length (digits_of n x) ≡ n
unfolding digits_of
length_digits zero x = refl
length_digits (suc n) x = length-append (digits_of n (x / 10)) _ ∙ rw (length_digits n (x / 10)) (add-one n)

pub length_parts : (x : ℕ) → 10000 ≤ x → x < 10000000000 → length (decimal x) ≡ length (decimal (x / 10000)) + 4
length_parts x l h =
    rw (decimal_parts x l h, length-append (decimal (x / 10000)) (digits_of 4 (x % 10000)), length_digits 4 (x % 10000))

-- what a decimal of up to four digits is, and how long
pub ruleset decimals = (decimal-one, decimal_two, decimal-three, decimal_four, length_digits)
