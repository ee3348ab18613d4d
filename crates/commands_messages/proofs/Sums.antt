-- Sums of bytes: those of numbers in a row, and how large they get. Assumes nothing.
use mathlib.Core.Path.{◌≡◌, refl, sym, ap, ◌∙◌}
use mathlib.Core.List.{List, [], ◌∷◌}
use Prim.Native.Nat.{ℕ, zero, suc, ◌+◌, ◌*◌, ◌≤◌, ◌<◌}
use native.Mathlib.Omega.{arith}
use lib.ListN.{length, get_or}
use Rattle.std.specs.List.{sum_by, range_with_len}
use Rattle.std.proofs.lemmas.List.FromFn.{length-range_with_len, get_or-range_with_len}
use Rattle.std.proofs.lemmas.List.Sums.{sum_by-cons}
use Rattle.model.specs.Commands.{sum_of}

-- the lowest number's value comes first or last
sum_front : (n : ℕ) (f : ℕ → ℕ) → sum_of (suc n) f ≡ f 0 + sum_of n (λ k. f (suc k))
unfolding sum_of
sum_front zero f = omega arith
sum_front (suc n) f = omega (arith, sum_front n f)

-- equal values
sum_ext : (n : ℕ) (f g : ℕ → ℕ) → ((k : ℕ) → k < n → f k ≡ g k) → sum_of n f ≡ sum_of n g
unfolding sum_of
sum_ext zero f g e = refl
sum_ext (suc n) f g e = omega (arith, sum_ext n f g (λ k b. e k (omega arith)), e n (omega arith))

sum_list : {A : Type 0} (h : A → ℕ) (d : A) (ys : List A) → sum_by h ys ≡ sum_of (length ys) (λ k. h (get_or ys k d))
unfolding sum_of
sum_list h d [] = refl
sum_list h d (y ∷ ys) = sum_by-cons h y ys ∙ ap (λ s. h y + s) (sum_list h d ys) ∙ sym (sum_front (length ys) (λ k. h (get_or (y ∷ ys) k d)))

-- numbers in a row
pub sum_range : (h : ℕ → ℕ) (n : ℕ) → sum_by h (range_with_len 0 n) ≡ sum_of n h
sum_range h n =
    sum_list h 0 (range_with_len 0 n)
    ∙ rw (length-range_with_len 0 n) (sum_ext n _ _ (λ k b. ap h (get_or-range_with_len 0 n k 0 b ∙ omega arith)))

pub sum_bound : (f : ℕ → ℕ) (n : ℕ) → ((k : ℕ) → f k < 256) → sum_of n f ≤ 255 * n
unfolding sum_of
sum_bound f zero h = omega arith
sum_bound f (suc n) h = omega (arith, sum_bound f n h, h n)
