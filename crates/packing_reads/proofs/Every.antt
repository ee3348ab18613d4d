-- A test of every number of a range, one after the other, is the test of every number below its length. Assumes nothing.
use mathlib.Core.Path.{◌≡◌, refl, sym, ap, ◌∙◌}
use mathlib.Core.Bool.{Bool, true, false, ◌&&◌}
use Prim.Native.Nat.{ℕ, zero, suc, ◌+◌, ◌<◌}
use native.Mathlib.Nat.{add-zero}
use native.Mathlib.Omega.{arith}
use Rattle.std.specs.List.{list_all, range_with_len}
use Rattle.bits.specs.Choice.{both}
use Rattle.bits.specs.Loop.{all_below}
use Rattle.bits.proofs.Loops.{all_ext}

-- the first number's test by itself
all_front : (n : ℕ) (p : ℕ → Bool) → all_below (suc n) p ≡ (p 0 && all_below n (λ k. p (suc k)))
unfolding all_below both
all_front zero p = first (p 0)
  where
    first : (b : Bool) → b ≡ (b && true)
    first true = refl
    first false = refl
all_front (suc n) p = rw (all_front n p) (apart (p 0) (all_below n (λ k. p (suc k))) (p (suc n)))
  where
    apart : (a b c : Bool) → both (a && b) c ≡ (a && both b c)
    apart true b c = refl
    apart false b c = refl

listed_from : (n a : ℕ) (p : ℕ → Bool) → list_all p (range_with_len a n) ≡ all_below n (λ k. p (a + k))
unfolding all_below
listed_from zero a p = refl
listed_from (suc n) a p =
    let next : (k : ℕ) → k < n → p (a + 1 + k) ≡ p (a + suc k) = λ k b. (let e : a + 1 + k ≡ a + suc k = omega arith in ap p e) in
    ap (λ t. p a && t) (listed_from n (a + 1) p ∙ all_ext n _ _ next) ∙ sym (rw add-zero at (all_front n (λ k. p (a + k))))

pub all_listed : (n : ℕ) (p : ℕ → Bool) → list_all p (range_with_len 0 n) ≡ all_below n p
all_listed n p = listed_from n 0 p ∙ all_ext n _ p (λ k b. (let e : 0 + k ≡ k = omega arith in ap p e))
