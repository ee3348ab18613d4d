-- What `all` and `any` over numbers in a row answer, in the model's words. Assumes nothing.
use mathlib.Core.Path.{◌≡◌, refl, sym, ap, ap₂, ◌∙◌}
use mathlib.Core.Bool.{Bool, true, false}
use Prim.Native.Nat.{ℕ, zero, suc, ◌+◌}
use native.Mathlib.Omega.{arith}
use Rattle.std.specs.List.{list_any, list_all, range_with_len}
use Rattle.bits.specs.Choice.{both, either}
use Rattle.bits.specs.Loop.{any_below, all_below}
use Rattle.bits.proofs.Tests.{and_both, or_either}
use Rattle.bits.proofs.Members.{any_front}

both_assoc : (a b c : Bool) → both a (both b c) ≡ both (both a b) c
unfolding both
both_assoc true b c = refl
both_assoc false b c = refl

both_true : (a : Bool) → both a true ≡ both true a
unfolding both
both_true true = refl
both_true false = refl

-- the lowest number's test comes first or last
all_front : (n : ℕ) (p : ℕ → Bool) → all_below (suc n) p ≡ both (p 0) (all_below n (λ k. p (suc k)))
unfolding all_below
all_front zero p = sym (both_true (p 0))
all_front (suc n) p = ap (λ b. both b (p (suc n))) (all_front n p) ∙ sym (both_assoc _ _ _)

-- equal tests
all_ext : (n : ℕ) (p q : ℕ → Bool) → ((k : ℕ) → p k ≡ q k) → all_below n p ≡ all_below n q
unfolding all_below
all_ext zero p q e = refl
all_ext (suc n) p q e = ap₂ both (all_ext n p q e) (e n)

any_ext : (n : ℕ) (p q : ℕ → Bool) → ((k : ℕ) → p k ≡ q k) → any_below n p ≡ any_below n q
unfolding any_below
any_ext zero p q e = refl
any_ext (suc n) p q e = ap₂ either (any_ext n p q e) (e n)

-- over n numbers from a on
all_from : (n a : ℕ) (p : ℕ → Bool) → list_all p (range_with_len a n) ≡ all_below n (λ k. p (a + k))
unfolding all_below
all_from zero a p = refl
all_from (suc n) a p =
    and_both _ _
    ∙ ap₂ both (ap p (omega arith)) (all_from n (a + 1) p ∙ all_ext n _ _ (λ k. ap p (omega arith)))
    ∙ sym (all_front n (λ k. p (a + k)))

any_from : (n a : ℕ) (p : ℕ → Bool) → list_any p (range_with_len a n) ≡ any_below n (λ k. p (a + k))
unfolding any_below
any_from zero a p = refl
any_from (suc n) a p =
    or_either _ _
    ∙ ap₂ either (ap p (omega arith)) (any_from n (a + 1) p ∙ any_ext n _ _ (λ k. ap p (omega arith)))
    ∙ sym (any_front n (λ k. p (a + k)))

-- over the numbers below n
pub all_range : (n : ℕ) (p : ℕ → Bool) → list_all p (range_with_len 0 n) ≡ all_below n p
all_range n p = all_from n 0 p ∙ all_ext n _ _ (λ k. ap p (omega arith))

pub any_range : (n : ℕ) (p : ℕ → Bool) → list_any p (range_with_len 0 n) ≡ any_below n p
any_range n p = any_from n 0 p ∙ any_ext n _ _ (λ k. ap p (omega arith))
