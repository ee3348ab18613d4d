-- Laws over ranges of bytes: which byte lies in a list of them, which lists cover a range, and which lie apart from it. Assumes nothing.
use mathlib.Core.Path.{◌≡◌, refl}
use mathlib.Core.Bool.{Bool, true, false}
use mathlib.Core.List.{List, [], ◌∷◌}
use mathlib.Core.Logic.{inl, inr}
use Prim.Native.Nat.{ℕ, suc, ◌≤◌, ◌<◌}
use native.Mathlib.Decide.{dec_lt}
use native.Mathlib.Omega.{arith}
use lib.Dec.{leb, ltb}
use borrow.Author.Tests.{leb-true, ltb-true, le-leb}
use Rattle.bits.specs.Choice.{both, either}
use Rattle.bits.proofs.Tests.{split, clash, both_l, both_r, both_i, either_cases, either_i_l, either_i_r}
use Rattle.model.specs.Map.{Range, range, in_ranges}
use Rattle.laws_frames.specs.Frames.{Beside}

-- ---- one range

pub between : (a i b : ℕ) → both (leb a i) (leb i b) ≡ true → (a ≤ i) × (i ≤ b)
between a i b e = (leb-true a i (both_l _ _ e), leb-true i b (both_r _ _ e))

inside : (a i b : ℕ) → a ≤ i → i ≤ b → both (leb a i) (leb i b) ≡ true
inside a i b p q = both_i (le-leb a i p) (le-leb i b q)

of_range : (from to i : ℕ) → in_ranges (range from to ∷ []) i ≡ true → (from ≤ i) × (i ≤ to)
unfolding in_ranges
of_range from to i e = elim (either_cases _ _ e) [ inl t ↦ between from i to t | inr t ↦ absurd (clash t refl) ]

-- ---- a list of ranges

-- the bytes lo .. hi - 1 lie apart from every range of a list
unfoldable pub apart_from : ℕ → ℕ → List Range → Bool
apart_from lo hi [] = true
apart_from lo hi (r ∷ rs) = both (either (ltb r.to lo) (leb hi r.from)) (apart_from lo hi rs)

pub not_in : (lo hi : ℕ) (rs : List Range) (i : ℕ) → apart_from lo hi rs ≡ true → lo ≤ i → i < hi → in_ranges rs i ≡ true → ⊥
unfolding apart_from in_ranges
not_in lo hi [] i e a b f = clash f refl
not_in lo hi (r ∷ rs) i e a b f = elim (either_cases _ _ f) [
  | inl t ↦ elim (either_cases _ _ (both_l _ _ e)) [
    | inl p ↦ let h = between r.from i r.to t in let k : r.to < lo = ltb-true r.to lo p in omega arith
    | inr p ↦ let h = between r.from i r.to t in let k : hi ≤ r.from = leb-true hi r.from p in omega arith
  ]
  | inr t ↦ not_in lo hi rs i (both_r _ _ e) a b t
]

-- a range lies within one of a list
unfoldable pub covered_by : List Range → Range → Bool
covered_by [] r = false
covered_by (f ∷ fs) r = either (both (leb f.from r.from) (leb r.to f.to)) (covered_by fs r)

pub covered_in : (fs : List Range) (r : Range) (i : ℕ) → covered_by fs r ≡ true → r.from ≤ i → i ≤ r.to → in_ranges fs i ≡ true
unfolding covered_by in_ranges
covered_in [] r i e a b = absurd (clash e refl)
covered_in (f ∷ fs) r i e a b = elim (either_cases _ _ e) [
  | inl t ↦ let p : f.from ≤ r.from = leb-true _ _ (both_l _ _ t) in let q : r.to ≤ f.to = leb-true _ _ (both_r _ _ t) in
      either_i_l _ _ (inside f.from i f.to (omega arith) (omega arith))
  | inr t ↦ either_i_r _ _ (covered_in fs r i t a b)
]

-- every range of a list lies within one of another
unfoldable pub all_covered : List Range → List Range → Bool
all_covered fs [] = true
all_covered fs (r ∷ rs) = both (covered_by fs r) (all_covered fs rs)

pub ranges_in : (fs rs : List Range) (i : ℕ) → all_covered fs rs ≡ true → in_ranges rs i ≡ true → in_ranges fs i ≡ true
unfolding in_ranges all_covered
ranges_in fs [] i e h = absurd (clash h refl)
ranges_in fs (r ∷ rs) i e h = elim (either_cases _ _ h) [
  | inl t ↦ covered_in fs r i (both_l _ _ e) (between r.from i r.to t).0 (between r.from i r.to t).1
  | inr t ↦ ranges_in fs rs i (both_r _ _ e) t
]

-- .. and where that is one range, a byte in the list lies between its ends
pub spanned : (lo hi : ℕ) (rs : List Range) (i : ℕ) → all_covered (range lo hi ∷ []) rs ≡ true → in_ranges rs i ≡ true → (lo ≤ i) × (i ≤ hi)
spanned lo hi rs i e h = of_range lo hi i (ranges_in (range lo hi ∷ []) rs i e h)

-- every range of a list lies apart from every range of another
unfoldable pub all_apart : List Range → List Range → Bool
all_apart [] rs = true
all_apart (q ∷ qs) rs = both (apart_from q.from (suc q.to) rs) (all_apart qs rs)

pub ranges_apart : (qs rs : List Range) (i : ℕ) → all_apart qs rs ≡ true → in_ranges qs i ≡ true → in_ranges rs i ≡ false
unfolding in_ranges all_apart
ranges_apart [] rs i e h = absurd (clash h refl)
ranges_apart (q ∷ qs) rs i e h = elim (either_cases _ _ h) [
  | inl t ↦ let r = between q.from i q.to t in
      split (in_ranges rs i) (λ u. absurd (not_in q.from (suc q.to) rs i (both_l _ _ e) r.0 (omega arith) u)) (λ u. u)
  | inr t ↦ ranges_apart qs rs i (both_r _ _ e) t
]

-- a byte that is not in a range lies beside it
pub beside_range : (from to i : ℕ) → both (leb from i) (leb i to) ≡ false → Beside from (suc to) i
beside_range from to i e = elim (dec_lt i from) [
  | yes h ↦ inl h
  | no h ↦ elim (dec_lt to i) [ yes k ↦ inr (omega arith) | no k ↦ absurd (clash (inside from i to (omega arith) (omega arith)) e) ]
]
