-- Sets of lanes put together, and tests of their lanes, by the bits of their numbers. Assumes nothing.
use mathlib.Core.Path.{◌≡◌, refl, sym, ap, ap₂, ◌∙◌}
use mathlib.Core.Bool.{Bool, true, false, not}
use mathlib.Core.Logic.{◌⊎◌, inl, inr}
use mathlib.Core.List.{List}
use Prim.Native.Nat.{ℕ, ◌+◌, ◌-◌, ◌*◌, ◌/◌, ◌%◌, ◌^◌, ◌≤◌, ◌<◌}
use native.Mathlib.Nat.{zero-div, zero-mod, zero-mul, one-mul}
use native.Mathlib.Decide.{dec_lt, ℕ_discrete}
use native.Mathlib.Omega.{arith}
use borrow.Author.Tests.{not-true, eqb-true, eqb-false, eq-eqb, ne_eqb, lt-ltb, le-ltb}
use mir.Val.{bool_byte}
use lib.Bits.{bit_and, bit_or, and_lt, or_lt, and_le_l}
use lib.Dec.{eqb, ltb}
use lib.ListN.{get_or}
use lib.Pow.{pow-lt, pow_mono, ones_lt, ones_sub-lt}
use Rattle.bits.specs.Choice.{pick, both, either, implies}
use Rattle.bits.specs.Lane.{lane_field}
use Rattle.bits.specs.Loop.{any_below, all_below}
use Rattle.bits.specs.Number.{field, with_field}
use Rattle.bits.specs.Place.{get}
use Rattle.bits.specs.Sets.{has, mask_of}
use Rattle.bits.proofs.Tests.{split, clash, bool_eq, not-not, no_exception, choose, either-pick, either-none}
use Rattle.bits.proofs.Number.{digit-zero_or_one, digit_and, digit_or, other, stays}
use Rattle.bits.proofs.Loops.{any_none, any_find, any_ext, not_any, all_at, all_intro, all_ext}
use Rattle.bits.proofs.Masks.{set_ext, has-put, has-put_other, has-none, mask_lt, has-mask, mask_ext, mask-of-has}

-- ---- the lanes of a set
pub has-zero : (l : ℕ) → has 0 l ≡ false
has-zero l = has-none 0 0 l (omega arith) (omega arith)

-- `and` has the lanes of both sets, `or` those of either
pub has_and : (a b l : ℕ) → has (bit_and a b) l ≡ both (has a l) (has b l)
unfolding has both
has_and a b l = cases (digit-zero_or_one a l) (digit-zero_or_one b l)
  where
    cases : (field a l 1 ≡ 0) ⊎ (field a l 1 ≡ 1) → (field b l 1 ≡ 0) ⊎ (field b l 1 ≡ 1) → has (bit_and a b) l ≡ both (has a l) (has b l)
    cases (inl p) q = rw (digit_and a b l, p)
    cases (inr p) (inl q) = rw (digit_and a b l, p, q)
    cases (inr p) (inr q) = rw (digit_and a b l, p, q)

pub has_or : (a b l : ℕ) → has (bit_or a b) l ≡ either (has a l) (has b l)
unfolding has either
has_or a b l = cases (digit-zero_or_one a l) (digit-zero_or_one b l)
  where
    cases : (field a l 1 ≡ 0) ⊎ (field a l 1 ≡ 1) → (field b l 1 ≡ 0) ⊎ (field b l 1 ≡ 1) → has (bit_or a b) l ≡ either (has a l) (has b l)
    cases (inl p) (inl q) = rw (digit_or a b l, p, q)
    cases (inl p) (inr q) = rw (digit_or a b l, p, q)
    cases (inr p) (inl q) = rw (digit_or a b l, p, q)
    cases (inr p) (inr q) = rw (digit_or a b l, p, q)

-- the complement has the other lanes
pub has_rest : (n g l : ℕ) → g < 2 ^ n → l < n → has (2 ^ n - 1 - g) l ≡ not (has g l)
unfolding has
has_rest n g l h k = cases (digit-zero_or_one g l)
  where
    cases : (field g l 1 ≡ 0) ⊎ (field g l 1 ≡ 1) → has (2 ^ n - 1 - g) l ≡ not (has g l)
    cases (inl q) = let e : field (2 ^ n - 1 - g) l 1 ≡ 1 = omega (arith, other n g l k h) in rw (e, q)
    cases (inr q) = let e : field (2 ^ n - 1 - g) l 1 ≡ 0 = omega (arith, other n g l k h) in rw (e, q)

-- one less than a power has the lanes below it
pub has_below : (k l : ℕ) → has (2 ^ k - 1) l ≡ ltb l k
has_below k l = elim (dec_lt l k) [
  | yes h ↦ let e : 2 ^ k - 1 - 0 ≡ 2 ^ k - 1 = omega arith in
      rw (lt-ltb l k h, ← e) (has_rest k 0 l (omega (arith, ones_lt k)) h ∙ ap not (has-zero l))
  | no h ↦ rw (le-ltb l k (omega arith)) (has-none (2 ^ k - 1) k l (ones_lt k) (omega arith))
]

-- a set with one lane put in or taken out
has_chosen : (g l m : ℕ) (b : Bool) → has (with_field g l 1 (bool_byte b)) m ≡ pick (eqb l m) b (has g m)
unfolding pick
has_chosen g l m b = elim (ℕ_discrete m l) [
  | yes e ↦ rw (e, eq-eqb l l refl, pick) (has-put g l b)
  | no e ↦ rw (ne_eqb l m (λ q. e (sym q)), pick) (has-put_other g l b m e)
]

pub has_with : (g l m : ℕ) → has (with_field g l 1 (bool_byte true)) m ≡ either (eqb l m) (has g m)
has_with g l m = has_chosen g l m true ∙ sym (either-pick (eqb l m) (has g m))

-- a power has one lane
has-power : (l m : ℕ) (b : Bool) → has (bool_byte b * 2 ^ l) m ≡ both b (eqb l m)
unfolding with_field either both
has-power l m true =
    let e : with_field 0 l 1 1 ≡ 1 * 2 ^ l = rw (zero-div, zero-mod) (omega arith) in
    ap (λ k. has k m) (sym e) ∙ has_with 0 l m ∙ rw (has-zero m) (either-none (eqb l m))
has-power l m false = rw zero-mul (has-zero m)

-- one lane replaced: cleared, then set where it is to be in
pub put_lane : (n g l : ℕ) (b : Bool) → g < 2 ^ n → l < n → bit_or (bit_and g (2 ^ n - 1 - 2 ^ l)) (bool_byte b * 2 ^ l) ≡ with_field g l 1 (bool_byte b)
unfolding both either
put_lane n g l b h k = set_ext _ _ (λ m. has_or (bit_and g c) (bool_byte b * 2 ^ l) m ∙ ap₂ either (has_and g c m) (has-power l m b) ∙ chosen m ∙ sym (has_chosen g l m b))
  where
    c : ℕ
    c = 2 ^ n - 1 - 2 ^ l

    chosen : (m : ℕ) → either (both (has g m) (has c m)) (both b (eqb l m)) ≡ pick (eqb l m) b (has g m)
    chosen m = elim (dec_lt m n) [
      | yes d ↦ rw (has_rest n (2 ^ l) m (pow-lt k) d, ← (one-mul (2 ^ l)), has-power l m true, both) (choose (eqb l m) b (has g m))
      | no d ↦ rw (has-none g n m h (omega arith), both, ne_eqb l m (omega arith)) (choose false b false)
    ]

-- a lane's bit of a byte is the byte's digit
pub bit-has : (x : List ℕ) (at l : ℕ) → l < 8 → eqb (get x (lane_field at 1 l)) 1 ≡ has (get_or x at 0) l
unfolding get lane_field has
bit-has x at l h =
    let e : at + l * 1 / 8 ≡ at = omega arith in
    let f : l * 1 % 8 ≡ l = omega arith in
    rw (e, f)

-- ---- collected sets
-- a set of n lanes is told by its lanes
pub set_is : (n g : ℕ) (p : ℕ → Bool) → g < 2 ^ n → ((l : ℕ) → l < n → has g l ≡ p l) → g ≡ mask_of n p
set_is n g p h e = sym (mask-of-has n g h) ∙ mask_ext n (has g) p e

module _ (n : ℕ) (p : ℕ → Bool) {a : ℕ} where
  pub set-lt : a ≡ mask_of n p → a < 2 ^ n
  set-lt e = rw e (mask_lt n p)

  pub in_set : a ≡ mask_of n p → (l : ℕ) → l < n → has a l ≡ p l
  in_set e l h = rw e (has-mask n p l h)

  -- the lanes that do not pass
  pub rest_is : a ≡ mask_of n p → 2 ^ n - 1 - a ≡ mask_of n (λ l. not (p l))
  rest_is e = set_is n (2 ^ n - 1 - a) (λ l. not (p l)) (ones_sub-lt n a) (λ l h. has_rest n a l (set-lt e) h ∙ ap not (in_set e l h))

  -- one more lane
  pub with_is : a ≡ mask_of n p → (l : ℕ) → l < n → with_field a l 1 (bool_byte true) ≡ mask_of n (λ m. either (eqb l m) (p m))
  with_is e l b = set_is n (with_field a l 1 (bool_byte true)) (λ m. either (eqb l m) (p m)) (stays a l 1 (bool_byte true) n (omega arith) (set-lt e))
      (λ m h. has_with a l m ∙ ap (either (eqb l m)) (in_set e m h))

  -- the lanes that pass both tests, or either
  module _ (q : ℕ → Bool) {b : ℕ} where
    pub and_is : a ≡ mask_of n p → b ≡ mask_of n q → bit_and a b ≡ mask_of n (λ l. both (p l) (q l))
    and_is e f = set_is n (bit_and a b) (λ l. both (p l) (q l)) (and_lt n a b (set-lt e) (rw f (mask_lt n q)))
        (λ l h. has_and a b l ∙ ap₂ both (in_set e l h) (rw f (has-mask n q l h)))

    pub or_is : a ≡ mask_of n p → b ≡ mask_of n q → bit_or a b ≡ mask_of n (λ l. either (p l) (q l))
    or_is e f = set_is n (bit_or a b) (λ l. either (p l) (q l)) (or_lt n a b (set-lt e) (rw f (mask_lt n q)))
        (λ l h. has_or a b l ∙ ap₂ either (in_set e l h) (rw f (has-mask n q l h)))

-- the lanes below k, of n
pub below_is : (n k : ℕ) → k ≤ n → 2 ^ k - 1 ≡ mask_of n (λ l. ltb l k)
below_is n k h = set_is n (2 ^ k - 1) (λ l. ltb l k) (omega (arith, ones_lt k, pow_mono h)) (λ l b. has_below k l)

-- ---- tests of a set's lanes
-- a set of n lanes is not empty exactly where it has one
pub some_in_lem : (n g : ℕ) → g < 2 ^ n → not (eqb g 0) ≡ any_below n (has g)
some_in_lem n g h = bool_eq _ _
    (λ e. split (any_below n (has g)) (λ t. t) (λ f. absurd (eqb-false g 0 (not-true _ e) (none f))))
    (λ e. let r = any_find n (has g) e in rw (ne_eqb g 0 (λ q. clash r.2 (ap (λ k. has k r.0) q ∙ has-zero r.0))))
  where
    none : any_below n (has g) ≡ false → g ≡ 0
    none f = set_ext g 0 (λ l. elim (dec_lt l n) [
      | yes k ↦ any_none n (has g) f l k ∙ sym (has-zero l)
      | no k ↦ has-none g n l h (omega arith) ∙ sym (has-zero l)
    ])

module _ (n a b : ℕ) (h : a < 2 ^ n) where
  and_less : (c : ℕ) → bit_and a c < 2 ^ n
  and_less c = omega (arith, and_le_l a c)

  -- two sets share a lane
  pub shares : not (eqb (bit_and a b) 0) ≡ any_below n (λ m. both (has a m) (has b m))
  shares = some_in_lem n (bit_and a b) (and_less b) ∙ any_ext n _ _ (λ m k. has_and a b m)

  -- a set lies in another: it shares no lane with the rest
  pub lies_in : b < 2 ^ n → eqb (bit_and a (2 ^ n - 1 - b)) 0 ≡ all_below n (λ m. implies (has a m) (has b m))
  lies_in l =
      sym (not-not (eqb (bit_and a (2 ^ n - 1 - b)) 0))
      ∙ ap not (some_in_lem n (bit_and a (2 ^ n - 1 - b)) (and_less (2 ^ n - 1 - b)))
      ∙ not_any n _
      ∙ all_ext n _ _ (λ m k. ap not (has_and a (2 ^ n - 1 - b) m ∙ ap (both (has a m)) (has_rest n b m l k)) ∙ no_exception (has a m) (has b m))

-- a test of a set's lanes is one of the lanes that pass
module _ (n g : ℕ) (p : ℕ → Bool) {a : ℕ} where
  pub some_of : a ≡ mask_of n p → any_below n (λ m. both (has g m) (has a m)) ≡ any_below n (λ m. both (has g m) (p m))
  some_of e = any_ext n _ _ (λ m h. ap (both (has g m)) (in_set n p e m h))

  pub every_of : a ≡ mask_of n p → all_below n (λ m. implies (has g m) (has a m)) ≡ all_below n (λ m. implies (has g m) (p m))
  every_of e = all_ext n _ _ (λ m h. ap (implies (has g m)) (in_set n p e m h))

-- a set is of all n lanes exactly where all pass
pub all_of : (n : ℕ) (p : ℕ → Bool) {a : ℕ} → a ≡ mask_of n p → eqb a (2 ^ n - 1) ≡ all_below n p
all_of n p {a} e = bool_eq _ _
    (λ t. all_intro n p (λ l h. sym (in_set n p e l h) ∙ ap (λ g. has g l) (eqb-true a (2 ^ n - 1) t) ∙ has_below n l ∙ lt-ltb l n h))
    (λ t. eq-eqb a (2 ^ n - 1) (e ∙ mask_ext n p (λ l. ltb l n) (λ l h. all_at n p t l h ∙ sym (lt-ltb l n h)) ∙ sym (below_is n n (omega arith))))
