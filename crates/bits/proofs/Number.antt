-- Laws of a run of binary digits of a number: what the run and the rest hold after the run is replaced, and numbers digit by digit. Assumes nothing.
use mathlib.Core.Path.{◌≡◌, sym, ap, ◌∙◌, subst}
use mathlib.Core.Logic.{◌⊎◌, inl, inr}
use Prim.Native.Nat.{ℕ, zero, suc, ◌+◌, ◌-◌, ◌*◌, ◌/◌, ◌%◌, ◌^◌, ◌≤◌, ◌<◌}
use native.Mathlib.Nat.{mod-lt, mod-eq_of_lt, div-one, add_assoc, add_comm, mul_assoc, add-mul, sub-add_cancel, zero-add, zero-mod, div-eq_of_lt, lt_of_lt_of_le, not-suc-le-zero}
use native.Mathlib.Decide.{dec_le, ℕ_discrete}
use native.Mathlib.Omega.{arith}
use lib.Arith.{digits_lt}
use lib.Pow.{pow_pos, pow_mono, pow-add, shr-shr, shr_lt, split, high, low, mod-pow-add, mod-mod-pow}
use lib.Pow as Pow
use lib.Bits.{bit_and, bit_or, and_shr, and_mod, and_le_r, or_shr, or_mod, or_add_and, or_zero_l}
use lib.Dec.{eqb}
use borrow.Author.Tests.{ne_eqb}
use Rattle.bits.specs.Choice.{both}
use Rattle.bits.specs.Number.{field, with_field}

pub got_lt : (x s w : ℕ) → field x s w < 2 ^ w
unfolding field
got_lt x s w = mod-lt (x / 2 ^ s) (pow_pos w)

-- a put reads only what lies above the run and below it
put_parts : (y s w u H L : ℕ) → y / 2 ^ (w + s) ≡ H → y % 2 ^ s ≡ L → with_field y s w u ≡ H * 2 ^ (w + s) + (u % 2 ^ w * 2 ^ s + L)
unfolding with_field
put_parts y s w u H L p q = rw (p, q)

module _ (x s w v : ℕ) where
  -- the part up to the run's end is below that end's power
  part_lt : v % 2 ^ w * 2 ^ s + x % 2 ^ s < 2 ^ (w + s)
  part_lt = rw (pow-add 2 w s) (digits_lt (mod-lt v (pow_pos w)) (mod-lt x (pow_pos s)))

  -- what lies above the run, and below it, stays
  above : with_field x s w v / 2 ^ (w + s) ≡ x / 2 ^ (w + s)
  unfolding with_field
  above = high _ (w + s) part_lt

  upto : with_field x s w v % 2 ^ (w + s) ≡ v % 2 ^ w * 2 ^ s + x % 2 ^ s
  unfolding with_field
  upto = low _ (w + s) part_lt

  below : with_field x s w v % 2 ^ s ≡ x % 2 ^ s
  below = sym (mod-mod-pow (with_field x s w v) w s) ∙ ap (λ n. n % 2 ^ s) upto ∙ low (v % 2 ^ w) s (mod-lt x (pow_pos s))

  -- the run holds what was put, as far as it fits
  pub same : field (with_field x s w v) s w ≡ v % 2 ^ w
  unfolding field
  same = sym (Pow.field (with_field x s w v) w s) ∙ ap (λ n. n / 2 ^ s) upto ∙ high (v % 2 ^ w) s (mod-lt x (pow_pos s))

  -- the last put wins
  pub again : (u : ℕ) → with_field (with_field x s w v) s w u ≡ with_field x s w u
  unfolding with_field
  again u = put_parts (with_field x s w v) s w u _ _ above below

  -- a number of n bits stays one
  pub stays : (n : ℕ) → w + s ≤ n → x < 2 ^ n → with_field x s w v < 2 ^ n
  unfolding with_field
  stays n l b =
      let e : (n - (w + s)) + (w + s) ≡ n = omega arith in
      let c : x < 2 ^ ((n - (w + s)) + (w + s)) = rw e b in
      subst (λ m. with_field x s w v < m) (sym (pow-add 2 (n - (w + s)) (w + s)) ∙ ap (λ m. 2 ^ m) e)
      (digits_lt (shr_lt (n - (w + s)) (w + s) c) part_lt)

-- putting what is there changes nothing
pub back : (x s w : ℕ) → with_field x s w (field x s w) ≡ x
unfolding with_field field
back x s w = rw (mod-eq_of_lt (got_lt x s w), ← mod-pow-add) (split x (w + s))

-- a run that lies at k or higher is one of the number's part from k on
field-high : (y k d w : ℕ) → field y (d + k) w ≡ field (y / 2 ^ k) d w
unfolding field
field-high y k d w = rw (add_comm d k, ← shr-shr y k d)

-- a run that ends at k or lower is one of the number's part up to k
field-low : (y s w d : ℕ) → field y s w ≡ field (y % 2 ^ (d + (w + s))) s w
unfolding field
field-low y s w d =
    sym (Pow.field y w s) ∙ ap (λ n. n / 2 ^ s) (sym (mod-mod-pow y d (w + s))) ∙ Pow.field (y % 2 ^ (d + (w + s))) w s

put-high : (y k d w v : ℕ) → with_field y (d + k) w v ≡ with_field (y / 2 ^ k) d w v * 2 ^ k + y % 2 ^ k
unfolding with_field
put-high y k d w v =
    let e : y / 2 ^ ((w + d) + k) ≡ y / 2 ^ k / 2 ^ (w + d) = ap (λ n. y / 2 ^ n) (add_comm (w + d) k) ∙ sym (shr-shr y k (w + d)) in
    rw (← add_assoc w d k, mod-pow-add y d k, e, pow-add 2 (w + d) k, pow-add 2 d k)
    (simp (add-mul, mul_assoc, add_assoc))

-- the laws of two runs, the first lower by d bits
commute_up : (x s w v d w' v' : ℕ)
    → with_field (with_field x s w v) (d + (w + s)) w' v' ≡ with_field (with_field x (d + (w + s)) w' v') s w v
commute_up x s w v d w' v' =
    let k = w + s in
    let z = with_field x (d + k) w' v' in
    let Z = with_field (x / 2 ^ k) d w' v' in
    let l : x % 2 ^ k < 2 ^ k = mod-lt x (pow_pos k) in
    let p : z ≡ Z * 2 ^ k + x % 2 ^ k = put-high x k d w' v' in
    let a : z / 2 ^ k ≡ Z = ap (λ n. n / 2 ^ k) p ∙ high Z k l in
    let b : z % 2 ^ s ≡ x % 2 ^ s =
    sym (mod-mod-pow z w s) ∙ ap (λ n. n % 2 ^ k % 2 ^ s) p ∙ ap (λ n. n % 2 ^ s) (low Z k l) ∙ mod-mod-pow x w s in
    put-high (with_field x s w v) k d w' v'
    ∙ rw (above x s w v, upto x s w v) (sym (put_parts z s w v Z (x % 2 ^ s) a b))

kept_high : (x s w v d w' : ℕ) → field (with_field x s w v) (d + (w + s)) w' ≡ field x (d + (w + s)) w'
kept_high x s w v d w' = field-high (with_field x s w v) (w + s) d w' ∙ rw (above x s w v) (sym (field-high x (w + s) d w'))

kept_low : (x s w d w' v : ℕ) → field (with_field x (d + (w + s)) w' v) s w ≡ field x s w
kept_low x s w d w' v =
    field-low (with_field x (d + (w + s)) w' v) s w d ∙ rw (below x (d + (w + s)) w' v) (sym (field-low x s w d))

-- two runs share no digit
abbrev pub Clear : ℕ → ℕ → ℕ → ℕ → Type 0
Clear s w s' w' = (w + s ≤ s') ⊎ (w' + s' ≤ s)

module _ (x s w v s' w' : ℕ) where
  -- a run that is clear of the put keeps its value
  pub kept : Clear s w s' w' → field (with_field x s w v) s' w' ≡ field x s' w'
  kept (inl l) = rw (← sub-add_cancel l) (kept_high x s w v (s' - (w + s)) w')
  kept (inr l) = rw (← sub-add_cancel l) (kept_low x s' w' (s - (w' + s')) w v)

  -- puts in two clear runs commute
  pub commute : (v' : ℕ) → Clear s w s' w' → with_field (with_field x s w v) s' w' v' ≡ with_field (with_field x s' w' v') s w v
  commute v' (inl l) = rw (← sub-add_cancel l) (commute_up x s w v (s' - (w + s)) w' v')
  commute v' (inr l) = rw (← sub-add_cancel l) (sym (commute_up x s' w' v' (s - (w' + s')) w v))

-- ---- digits
pub digit-zero_or_one : (x b : ℕ) → (field x b 1 ≡ 0) ⊎ (field x b 1 ≡ 1)
digit-zero_or_one x b = let h : field x b 1 < 2 = got_lt x b 1 in
    elim (dec_le (field x b 1) 0) [ yes l ↦ inl (omega arith) | no l ↦ inr (omega arith) ]

-- a digit of a run
pub digit-of-field : (x s w b : ℕ) → b < w → field (field x s w) b 1 ≡ field x (s + b) 1
unfolding field
digit-of-field x s w b h =
    let e : (w - (1 + b)) + (1 + b) ≡ w = omega arith in
    ap (λ n. field (x / 2 ^ s % 2 ^ n) b 1) (sym e)
    ∙ sym (field-low (x / 2 ^ s) b 1 (w - (1 + b)))
    ∙ sym (field-high x s b 1)
    ∙ ap (λ n. field x n 1) (add_comm b s)

-- the lowest digits
pub lowest : (v w : ℕ) → field v 0 w ≡ v % 2 ^ w
unfolding field
lowest v w = rw (div-one v)

-- a digit in a replaced run, and one beside it
pub digit_in : (x s w v b : ℕ) → s ≤ b → b < s + w → field (with_field x s w v) b 1 ≡ field v (b - s) 1
digit_in x s w v b l h =
    let e : s + (b - s) ≡ b = omega arith in
    ap (λ n. field (with_field x s w v) n 1) (sym e)
    ∙ sym (digit-of-field (with_field x s w v) s w (b - s) (omega arith))
    ∙ ap (λ n. field n (b - s) 1) (same x s w v ∙ sym (lowest v w))
    ∙ digit-of-field v 0 w (b - s) (omega arith)
    ∙ ap (λ n. field v n 1) (omega arith)

pub digit-out : (x s w v b : ℕ) → (b < s) ⊎ (s + w ≤ b) → field (with_field x s w v) b 1 ≡ field x b 1
digit-out x s w v b (inl l) = kept x s w v b 1 (inr (omega arith))
digit-out x s w v b (inr l) = kept x s w v b 1 (inl (omega arith))

-- a run is its highest digit and the rest
top : (x s w : ℕ) → field x s (suc w) ≡ field x (s + w) 1 * 2 ^ w + field x s w
unfolding field
top x s w = let e : suc w ≡ 1 + w = omega arith in rw e (mod-pow-add (x / 2 ^ s) 1 w ∙ rw (shr-shr x s w))

-- equal digits, equal runs
pub field_ext : (x y s t w : ℕ) → ((b : ℕ) → b < w → field x (s + b) 1 ≡ field y (t + b) 1) → field x s w ≡ field y t w
field_ext x y s t zero h = let p = got_lt x s 0 in let q = got_lt y t 0 in omega arith
field_ext x y s t (suc w) h =
    rw (top x s w, top y t w, h w (omega arith), field_ext x y s t w (λ b l. h b (omega arith)))

-- every number has an end
pow_above : (x n : ℕ) → x ≤ n → x < 2 ^ n
pow_above x zero h = omega arith
pow_above x (suc n) h = let l : n < 2 ^ n = pow_above n n (omega arith) in omega arith

-- past a number's end every digit is 0
pub field_past : (x n s w : ℕ) → x < 2 ^ n → n ≤ s → field x s w ≡ 0
unfolding field
field_past x n s w h l = rw (div-eq_of_lt (lt_of_lt_of_le h (pow_mono l))) (zero-mod (2 ^ w))

-- equal digits, equal numbers
pub number_ext : (x y : ℕ) → ((b : ℕ) → field x b 1 ≡ field y b 1) → x ≡ y
number_ext x y h =
    let n = x + y in
    let e : x % 2 ^ n ≡ y % 2 ^ n = sym (lowest x n) ∙ field_ext x y 0 0 n (λ b l. rw zero-add (h b)) ∙ lowest y n in
    sym (mod-eq_of_lt (pow_above x n (omega arith))) ∙ e ∙ mod-eq_of_lt (pow_above y n (omega arith))

-- a digit above the lowest is one of the half
half : (x b : ℕ) → field x (suc b) 1 ≡ field (x / 2) b 1
unfolding field
half x b = let e : suc b ≡ 1 + b = omega arith in rw (e, ← shr-shr x 1 b)

-- the complement has the other digits
pub other : (w m b : ℕ) → b < w → m < 2 ^ w → field (2 ^ w - 1 - m) b 1 + field m b 1 ≡ 1
other zero m b h l = absurd (not-suc-le-zero h)
other (suc w) m zero h l = rw (lowest (2 ^ suc w - 1 - m) 1, lowest m 1) (omega arith)
other (suc w) m (suc b) h l =
    let e : (2 ^ suc w - 1 - m) / 2 ≡ 2 ^ w - 1 - m / 2 = omega arith in
    rw (half (2 ^ suc w - 1 - m) b, half m b, e) (other w (m / 2) b (omega arith) (omega arith))

-- a digit of `and`
pub digit_and : (a b l : ℕ) → field (bit_and a b) l 1 ≡ bit_and (field a l 1) (field b l 1)
unfolding field
digit_and a b l = rw (and_shr a b l, and_mod (a / 2 ^ l) (b / 2 ^ l) 1)

-- a digit of `or`
pub digit_or : (a b l : ℕ) → field (bit_or a b) l 1 ≡ bit_or (field a l 1) (field b l 1)
unfolding field
digit_or a b l = rw (or_shr a b l, or_mod (a / 2 ^ l) (b / 2 ^ l) 1)

-- `or` is zero exactly where both are
pub or_none : (a c : ℕ) → eqb (bit_or a c) 0 ≡ both (eqb a 0) (eqb c 0)
unfolding both
or_none a c = elim (ℕ_discrete a 0) [
  | yes e ↦ rw (e, or_zero_l c, both)
  | no e ↦ rw (ne_eqb a 0 e, ne_eqb (bit_or a c) 0 (λ q. e (omega (arith, or_add_and a c, and_le_r a c))), both)
]
