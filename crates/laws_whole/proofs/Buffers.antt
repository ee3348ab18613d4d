-- The buffers that a step of each run leaves: the bytes read in front, the rest untouched. Assumes nothing.
use mathlib.Core.Path.{◌≡◌, refl, sym, ap, ◌∙◌}
use mathlib.Core.Bool.{Bool}
use mathlib.Core.List.{List, [], ◌∷◌}
use Prim.Native.Nat.{ℕ}
use native.Mathlib.Omega.{arith}
use lib.ListN.{length}
use Rattle.model.specs.Outcome.{laid_over}
use Rattle.laws.proofs.Unchanged.{laid_front, laid_rest}
use Rattle.laws_whole.specs.Whole.{SameBuffer}
use Rattle.laws_frames.proofs.Alike.{alike_refl}
use Rattle.laws_frames.specs.Alike.{Alike}

laid_none : (buffer : List ℕ) → laid_over [] buffer ≡ buffer
unfolding laid_over
laid_none buffer = refl

empty : (xs : List ℕ) → length xs ≡ 0 → xs ≡ []
empty [] e = refl
empty (x ∷ xs) e = absurd (omega arith)

module _ (except : ℕ → ℕ → Bool) (xs ys buffer : List ℕ) (A : Alike except xs ys) where
  -- bytes that are alike, laid over the front of one buffer ..
  pub same-buffer : (n : ℕ) → length xs ≡ n → SameBuffer except n buffer (laid_over xs buffer) (laid_over ys buffer)
  same-buffer n e =
      let f : length ys ≡ n = sym A.size ∙ e in
      record {
        front = rw (laid_front n xs buffer e, laid_front n ys buffer f) A;
        rest = laid_rest n xs buffer e;
        rest' = laid_rest n ys buffer f;
      }

  -- .. or none of them
  pub untouched_buffer : (n : ℕ) → xs ≡ [] → SameBuffer except n buffer (laid_over xs buffer) (laid_over ys buffer)
  untouched_buffer n e =
      rw (e, empty ys (sym A.size ∙ ap length e), laid_none buffer)
      (record { front = alike_refl except _; rest = refl; rest' = refl })
