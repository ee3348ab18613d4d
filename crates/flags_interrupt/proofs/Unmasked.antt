-- Flags against masks, all bits of a number at once. Assumes nothing.
use mathlib.Core.Path.{◌≡◌, refl, sym, ap, ◌∙◌}
use mathlib.Core.Bool.{Bool, true, false, not}
use mathlib.Core.Logic.{◌⊎◌, inl, inr}
use Prim.Native.Nat.{ℕ, ◌+◌, ◌-◌, ◌^◌, ◌<◌}
use native.Mathlib.Decide.{dec_lt}
use native.Mathlib.Omega.{arith}
use borrow.Author.Tests.{not-true, eqb-false, ne_eqb}
use lib.Bits.{bit_and, bit_or, and_le_l}
use lib.Dec.{eqb}
use Rattle.bits.specs.Choice.{both, either}
use Rattle.bits.specs.Loop.{any_below}
use Rattle.bits.specs.Number.{field}
use Rattle.bits.specs.Sets.{has}
use Rattle.bits.proofs.Loops.{any_none, any_find, any_ext}
use Rattle.bits.proofs.Masks.{set_ext, has-none}
use Rattle.bits.proofs.Number.{digit-zero_or_one, digit_and, other, or_none}
use Rattle.bits.proofs.Tests.{split, clash, bool_eq}

-- what is left of the flags f, with n the complement of the masks m, has the digits that are 1 in f and 0 in m
open_digit : (f n m b : ℕ) → field n b 1 + field m b 1 ≡ 1 → has (bit_and f n) b ≡ both (eqb (field f b 1) 1) (eqb (field m b 1) 0)
unfolding has both
open_digit f n m b h = cases (digit-zero_or_one f b) (digit-zero_or_one m b)
  where
    cases : (field f b 1 ≡ 0) ⊎ (field f b 1 ≡ 1) → (field m b 1 ≡ 0) ⊎ (field m b 1 ≡ 1)
        → has (bit_and f n) b ≡ both (eqb (field f b 1) 1) (eqb (field m b 1) 0)
    cases (inl p) q = rw (digit_and f n b, p)
    cases (inr p) (inl q) = let e : field n b 1 ≡ 1 = omega arith in rw (digit_and f n b, p, q, e)
    cases (inr p) (inr q) = let e : field n b 1 ≡ 0 = omega arith in rw (digit_and f n b, p, q, e)

-- a number of w digits is not zero exactly when one of them is 1
some_digit : (w g : ℕ) → g < 2 ^ w → not (eqb g 0) ≡ any_below w (has g)
some_digit w g h = bool_eq _ _
    (λ e. split (any_below w (has g)) (λ t. t) (λ f. absurd (eqb-false g 0 (not-true _ e) (none f))))
    (λ e. let r = any_find w (has g) e in rw (ne_eqb g 0 (λ q. clash r.2 (ap (λ n. has n r.0) q ∙ has-zero r.0))))
  where
    has-zero : (l : ℕ) → has 0 l ≡ false
    has-zero l = has-none 0 0 l (omega arith) (omega arith)

    none : any_below w (has g) ≡ false → g ≡ 0
    none f = set_ext g 0 (λ l. elim (dec_lt l w) [
      | yes k ↦ any_none w (has g) f l k ∙ sym (has-zero l)
      | no k ↦ has-none g w l h (omega arith) ∙ sym (has-zero l)
    ])

-- an unmasked bit exists exactly when the flags without the masked ones are not all zero, whatever the width
pub unmasked : (w f m : ℕ) → f < 2 ^ w → m < 2 ^ w
    → not (eqb (bit_and f (2 ^ w - 1 - m)) 0) ≡ any_below w (λ b. both (eqb (field f b 1) 1) (eqb (field m b 1) 0))
unmasked w f m h l =
    some_digit w (bit_and f (2 ^ w - 1 - m)) (omega (arith, and_le_l f (2 ^ w - 1 - m)))
    ∙ any_ext w _ _ (λ b k. open_digit f _ m b (other w m b k l))

-- numbers gathered by `or` are zero exactly where each is
pub or_nonzero : (a c : ℕ) → not (eqb (bit_or a c) 0) ≡ either (not (eqb a 0)) (not (eqb c 0))
unfolding both either
or_nonzero a c = ap not (or_none a c) ∙ not-both (eqb a 0) (eqb c 0)
  where
    not-both : (p q : Bool) → not (both p q) ≡ either (not p) (not q)
    not-both true q = refl
    not-both false q = refl
