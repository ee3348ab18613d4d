-- The bits of a set's lanes put all at once, in one byte. Assumes nothing.
use mathlib.Core.Path.{◌≡◌, sym, ap, ◌∙◌}
use mathlib.Core.Bool.{true}
use mathlib.Core.List.{List}
use mathlib.Core.Logic.{◌⊎◌, inl, inr, ◌≢◌}
use Prim.Native.Nat.{ℕ, ◌+◌, ◌-◌, ◌*◌, ◌/◌, ◌%◌, ◌^◌, ◌<◌}
use native.Mathlib.Decide.{dec_lt}
use native.Mathlib.Omega.{arith}
use lib.Bits.{bit_and, bit_or}
use lib.ListN.{length, get_or, set}
use lib.Seq.{get_or-set_same, set-set, set-get_or}
use Rattle.bits.specs.Choice.{pick}
use Rattle.bits.specs.Lane.{lane_field}
use Rattle.bits.specs.Loop.{each}
use Rattle.bits.specs.Number.{field, with_field}
use Rattle.bits.specs.Place.{put}
use Rattle.bits.specs.Sets.{has}
use Rattle.bits.proofs.Loops.{each_two, each_skip, each_hit}
use Rattle.bits.proofs.Masks.{has-none}
use Rattle.bits.proofs.Number.{same, kept, number_ext, digit-zero_or_one, digit_and, digit_or, field_past, other}
use Rattle.bits.proofs.Tests.{split, clash, pick_true, pick-false}

-- `or` has a one for each lane of the set, and the old digit for the others
or_digit : (a m b : ℕ) → field (bit_or a m) b 1 ≡ pick (has m b) 1 (field a b 1)
unfolding has pick
or_digit a m b = cases (digit-zero_or_one a b) (digit-zero_or_one m b)
  where
    cases : (field a b 1 ≡ 0) ⊎ (field a b 1 ≡ 1) → (field m b 1 ≡ 0) ⊎ (field m b 1 ≡ 1) → field (bit_or a m) b 1 ≡ pick (has m b) 1 (field a b 1)
    cases (inl p) (inl q) = rw (digit_or a m b, p, q)
    cases (inl p) (inr q) = rw (digit_or a m b, p, q)
    cases (inr p) (inl q) = rw (digit_or a m b, p, q)
    cases (inr p) (inr q) = rw (digit_or a m b, p, q)

-- `and` with the complement has a zero for each lane of the set, and the old digit for the others
and_digit : (w a m b : ℕ) → a < 2 ^ w → m < 2 ^ w → field (bit_and a (2 ^ w - 1 - m)) b 1 ≡ pick (has m b) 0 (field a b 1)
unfolding has pick
and_digit w a m b h l = cases (digit-zero_or_one a b) (digit-zero_or_one m b)
  where
    n : ℕ
    n = 2 ^ w - 1 - m

    -- a one of the number lies below w, where the complement has the other digit
    complement : field a b 1 ≡ 1 → field n b 1 + field m b 1 ≡ 1
    complement p = elim (dec_lt b w) [ yes k ↦ other w m b k l | no k ↦ absurd (omega (arith, field_past a w b 1 h (omega arith))) ]

    cases : (field a b 1 ≡ 0) ⊎ (field a b 1 ≡ 1) → (field m b 1 ≡ 0) ⊎ (field m b 1 ≡ 1) → field (bit_and a n) b 1 ≡ pick (has m b) 0 (field a b 1)
    cases (inl p) (inl q) = rw (digit_and a n b, p, q)
    cases (inl p) (inr q) = rw (digit_and a n b, p, q)
    cases (inr p) (inl q) = let e : field n b 1 ≡ 1 = omega (arith, complement p) in rw (digit_and a n b, p, q, e)
    cases (inr p) (inr q) = let e : field n b 1 ≡ 0 = omega (arith, complement p) in rw (digit_and a n b, p, q, e)

-- the set's digits of a number put, lane by lane
abbrev puts : ℕ → ℕ → ℕ → ℕ
puts m v a = each (has m) (λ l y. with_field y l 1 v) 8 a

-- a put of one digit leaves the others
beside : (a k v b : ℕ) → k ≢ b → field (with_field a k 1 v) b 1 ≡ field a b 1
beside a k v b n = kept a k 1 v b 1 (elim (dec_lt k b) [ yes h ↦ inl (omega arith) | no h ↦ inr (omega arith) ])

-- each digit of the set's lanes is the value's, the others are as before
digit_puts : (m v a b : ℕ) → m < 2 ^ 8 → field (puts m v a) b 1 ≡ pick (has m b) (v % 2) (field a b 1)
digit_puts m v a b h = split (has m b)
    (λ e. each_hit (has m) _ (λ y. field y b 1) b 8 a (below e) e (λ k y l j t. beside y k v b (omega arith))
    ∙ same (each (has m) (λ l y. with_field y l 1 v) b a) b 1 v ∙ sym (pick_true _ _ e))
    (λ e. each_skip (has m) _ (λ y. field y b 1) 8 a (λ k y l t. beside y k v b (λ q. clash (rw q at t) e)) ∙ sym (pick-false _ _ e))
  where
    below : has m b ≡ true → b < 8
    below e = elim (dec_lt b 8) [ yes l ↦ l | no l ↦ absurd (clash e (has-none m 8 b h (omega arith))) ]

-- a lane's bit of one byte is a digit of its number
one-put : (x : List ℕ) (at k a v : ℕ) → at < length x → k < 8 → put (set x at a) (lane_field at 1 k) v ≡ set x at (with_field a k 1 v)
unfolding put lane_field
one-put x at k a v h l =
    let p : at + k * 1 / 8 ≡ at = omega arith in
    let q : k * 1 % 8 ≡ k = omega arith in
    rw (p, q, get_or-set_same x at a 0 h, set-set)

-- the lanes' bits of one byte are the digits of its number
puts_byte : (x : List ℕ) (at m v : ℕ) → at < length x → each (has m) (λ l y. put y (lane_field at 1 l) v) 8 x ≡ set x at (puts m v (get_or x at 0))
puts_byte x at m v h = each_two (λ y a. y ≡ set x at a) (has m) _ _ 8 step x (get_or x at 0) (sym (set-get_or x at 0))
  where
    step : (k : ℕ) (y : List ℕ) (a : ℕ) → k < 8 → has m k ≡ true → y ≡ set x at a → put y (lane_field at 1 k) v ≡ set x at (with_field a k 1 v)
    step k y a l t e = rw e (one-put x at k a v h l)

-- a byte with the value's digit for each lane of the set, and the old digit for the others, is what the puts leave
put_together : (x : List ℕ) (at m v z : ℕ) → at < length x → m < 2 ^ 8
    → ((b : ℕ) → field z b 1 ≡ pick (has m b) (v % 2) (field (get_or x at 0) b 1)) → set x at z ≡ each (has m) (λ l y. put y (lane_field at 1 l) v) 8 x
put_together x at m v z h l d =
    ap (set x at) (number_ext z (puts m v (get_or x at 0)) (λ b. d b ∙ sym (digit_puts m v (get_or x at 0) b l))) ∙ sym (puts_byte x at m v h)

-- `or` puts ones
pub or_sets : (x : List ℕ) (at m : ℕ) → at < length x → m < 2 ^ 8 → set x at (bit_or (get_or x at 0) m) ≡ each (has m) (λ l y. put y (lane_field at 1 l) 1) 8 x
or_sets x at m h l = put_together x at m 1 (bit_or (get_or x at 0) m) h l (or_digit (get_or x at 0) m)

-- `and` with the complement puts zeros
pub and_clears : (x : List ℕ) (at m : ℕ) → at < length x → get_or x at 0 < 2 ^ 8 → m < 2 ^ 8
    → set x at (bit_and (get_or x at 0) (2 ^ 8 - 1 - m)) ≡ each (has m) (λ l y. put y (lane_field at 1 l) 0) 8 x
and_clears x at m h g l = put_together x at m 0 (bit_and (get_or x at 0) (2 ^ 8 - 1 - m)) h l (λ b. and_digit 8 (get_or x at 0) m b g l)
