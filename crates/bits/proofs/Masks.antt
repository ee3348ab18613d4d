-- Laws of sets of lanes: a set is its lanes, what a collected set has, and the next lane of a set. Assumes nothing.
use mathlib.Core.Path.{◌≡◌, refl, sym, ap, ◌∙◌}
use mathlib.Core.Bool.{Bool, true, false}
use mathlib.Core.Logic.{◌≢◌, inl, inr}
use Prim.Native.Nat.{ℕ, zero, suc, ◌-◌, ◌^◌, ◌≤◌, ◌<◌}
use native.Mathlib.Nat.{not-suc-le-zero}
use native.Mathlib.Decide.{ℕ_discrete, dec_lt}
use native.Mathlib.Omega.{arith}
use mir.Val.{bool_byte}
use Rattle.bits.specs.Number.{field, with_field}
use Rattle.bits.specs.Choice.{pick}
use Rattle.bits.specs.Loop.{seek}
use Rattle.bits.specs.Sets.{has, mask_of, next_in}
use Rattle.bits.proofs.Tests.{clash}
use Rattle.bits.proofs.Number.{same, kept, stays, number_ext, digit-zero_or_one, field_past}
use Rattle.bits.proofs.Loops.{seek-le, seek_bound, seek_skips, seek_in}

-- a lane's digit says whether it is in the set
pub digit-has : (g l : ℕ) → field g l 1 ≡ bool_byte (has g l)
unfolding has
digit-has g l = elim (digit-zero_or_one g l) [ inl e ↦ rw e | inr e ↦ rw e ]

-- sets of the same lanes are the same
pub set_ext : (g h : ℕ) → ((l : ℕ) → has g l ≡ has h l) → g ≡ h
set_ext g h e = number_ext g h (λ l. digit-has g l ∙ ap bool_byte (e l) ∙ sym (digit-has h l))

-- one lane put in or taken out
pub has-put : (g l : ℕ) (b : Bool) → has (with_field g l 1 (bool_byte b)) l ≡ b
unfolding has
has-put g l true = rw (same g l 1 1)
has-put g l false = rw (same g l 1 0)

pub has-put_other : (g l : ℕ) (b : Bool) (m : ℕ) → m ≢ l → has (with_field g l 1 (bool_byte b)) m ≡ has g m
unfolding has
has-put_other g l b m n = rw (kept g l 1 (bool_byte b) m 1 (elim (dec_lt m l) [ yes h ↦ inr (omega arith) | no h ↦ inl (omega arith) ]))

-- a number of n bits has no lane from n on
pub has-none : (g n l : ℕ) → g < 2 ^ n → n ≤ l → has g l ≡ false
unfolding has
has-none g n l h b = rw (field_past g n l 1 h b)

-- ---- collected sets
pub mask_lt : (n : ℕ) (p : ℕ → Bool) → mask_of n p < 2 ^ n
unfolding mask_of
mask_lt zero p = omega arith
mask_lt (suc n) p = stays (mask_of n p) n 1 (bool_byte (p n)) (suc n) (omega arith) (omega (arith, mask_lt n p))

pub has-mask : (n : ℕ) (p : ℕ → Bool) (l : ℕ) → l < n → has (mask_of n p) l ≡ p l
unfolding mask_of
has-mask zero p l h = absurd (not-suc-le-zero h)
has-mask (suc n) p l h = elim (ℕ_discrete l n) [
  | yes e ↦ rw e (has-put (mask_of n p) n (p n))
  | no e ↦ has-put_other (mask_of n p) n (p n) l e ∙ has-mask n p l (omega arith)
]

pub has_past : (n : ℕ) (p : ℕ → Bool) (l : ℕ) → n ≤ l → has (mask_of n p) l ≡ false
has_past n p l h = has-none (mask_of n p) n l (mask_lt n p) h

pub mask_ext : (n : ℕ) (p q : ℕ → Bool) → ((l : ℕ) → l < n → p l ≡ q l) → mask_of n p ≡ mask_of n q
unfolding mask_of
mask_ext zero p q h = refl
mask_ext (suc n) p q h = rw (mask_ext n p q (λ l b. h l (omega arith)), h n (omega arith))

-- the lanes of a set, collected
pub mask-of-has : (n g : ℕ) → g < 2 ^ n → mask_of n (has g) ≡ g
mask-of-has n g h = set_ext _ g (λ l. elim (dec_lt l n) [
  | yes b ↦ has-mask n (has g) l b
  | no b ↦ has_past n (has g) l (omega arith) ∙ sym (has-none g n l h (omega arith))
])

-- ---- the next lane from k on
pub next_le : (n g k : ℕ) → k ≤ next_in n g k
unfolding next_in
next_le n g k = seek-le (n - k) k (has g)

pub next_bound : (n g k : ℕ) → k ≤ n → next_in n g k ≤ n
unfolding next_in
next_bound n g k h = omega (arith, seek_bound (n - k) k (has g))

pub next_skips : (n g k m : ℕ) → k ≤ m → m < next_in n g k → has g m ≡ false
unfolding next_in
next_skips n g k m = seek_skips (n - k) k (has g) m

pub next_in_lem : (n g k : ℕ) → next_in n g k < n → has g (next_in n g k) ≡ true
unfolding next_in
next_in_lem n g k h = seek_in (n - k) k (has g) (omega (arith, seek-le (n - k) k (has g)))

-- the search, one lane at a time
pub next_here : (n g k : ℕ) → k < n → has g k ≡ true → next_in n g k ≡ k
unfolding next_in seek pick
next_here n g k b h = let e : n - k ≡ suc (n - suc k) = omega arith in rw (e, seek, h, pick)

pub next-step : (n g k : ℕ) → k < n → has g k ≡ false → next_in n g k ≡ next_in n g (suc k)
unfolding next_in seek pick
next-step n g k b h = let e : n - k ≡ suc (n - suc k) = omega arith in rw (e, seek, h, pick)

pub next-end : (n g : ℕ) → next_in n g n ≡ n
unfolding next_in seek
next-end n g = let e : n - n ≡ 0 = omega arith in rw (e, seek)

-- a set that has a lane from k on has a next one, at that lane or before it
pub next_first : (n g k m : ℕ) → k ≤ m → has g m ≡ true → next_in n g k ≤ m
next_first n g k m b h = elim (dec_lt m (next_in n g k)) [
  | yes l ↦ absurd (clash h (next_skips n g k m b l))
  | no l ↦ omega arith
]

pub first_in_lem : (n g k m : ℕ) → k ≤ m → m < n → has g m ≡ true → (next_in n g k < n) × (has g (next_in n g k) ≡ true)
first_in_lem n g k m b l h = let e : next_in n g k < n = omega (arith, next_first n g k m b h) in (e, next_in_lem n g k e)
