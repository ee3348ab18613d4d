-- Two images that are the same outside a range of bytes: how changes give that, and how reads use it. Assumes nothing.
use mathlib.Core.Path.{◌≡◌, refl, ◌∙◌}
use mathlib.Core.Bool.{Bool, true}
use mathlib.Core.List.{List}
use mathlib.Core.Logic.{inl, inr}
use Prim.Native.Nat.{ℕ, suc, ◌≤◌, ◌<◌}
use native.Mathlib.Omega.{arith}
use lib.ListN.{get_or, set, length-set}
use lib.Seq.{get_or-set_other}
use Rattle.bits.specs.declared.Place.{Place}
use Rattle.bits.specs.Place.{get, put}
use Rattle.bits.specs.Loop.{each}
use Rattle.bits.proofs.Places.{length-put, byte_other}
use Rattle.bits.proofs.Loops.{each_ind}
use Rattle.laws_frames.specs.Frames.{Beside, SameOutside, SameWithin}

-- ---- making it

pub outside_refl : (lo hi : ℕ) (x : List ℕ) → SameOutside lo hi x x
outside_refl lo hi x = record { size = refl; byte = λ i o. refl }

pub outside_trans : {lo hi : ℕ} {x y z : List ℕ} → SameOutside lo hi x y → SameOutside lo hi y z → SameOutside lo hi x z
outside_trans p q = record { size = q.size ∙ p.size; byte = λ i o. q.byte i o ∙ p.byte i o }

-- a wider range
pub outside_wider : {lo hi : ℕ} {x y : List ℕ} (lo' hi' : ℕ) → lo' ≤ lo → hi ≤ hi' → SameOutside lo hi x y → SameOutside lo' hi' x y
outside_wider {lo} {hi} lo' hi' a b s = record { size = s.size; byte = λ i o. s.byte i (further i o) }
  where
    further : (i : ℕ) → Beside lo' hi' i → Beside lo hi i
    further i (inl l) = inl (omega arith)
    further i (inr l) = inr (omega arith)

pub set_outside : (x : List ℕ) (i v : ℕ) → SameOutside i (suc i) x (set x i v)
set_outside x i v = record { size = length-set x i v; byte = λ j o. get_or-set_other x i j v 0 (λ e. off j o e) }
  where
    off : (j : ℕ) → Beside i (suc i) j → j ≡ i → ⊥
    off j (inl l) e = omega arith
    off j (inr l) e = omega arith

pub put_outside : (lo hi : ℕ) (x : List ℕ) (p : Place) (v : ℕ) → lo ≤ p.byte → p.byte < hi → SameOutside lo hi x (put x p v)
put_outside lo hi x p v a b = record { size = length-put x p v; byte = λ i o. byte_other x p v i (λ e. off i o e) }
  where
    off : (i : ℕ) → Beside lo hi i → i ≡ p.byte → ⊥
    off i (inl l) e = omega arith
    off i (inr l) e = omega arith

-- a loop of changes inside the range
pub each_outside : (lo hi : ℕ) (c : ℕ → Bool) (f : ℕ → List ℕ → List ℕ) (n : ℕ) (x : List ℕ)
    → ((k : ℕ) (y : List ℕ) → k < n → c k ≡ true → SameOutside lo hi y (f k y)) → SameOutside lo hi x (each c f n x)
each_outside lo hi c f n x h = each_ind c f (SameOutside lo hi x) n (λ k y b e s. outside_trans s (h k y b e)) x (outside_refl lo hi x)

-- ---- using it

pub below_range : {lo hi : ℕ} {x y : List ℕ} (lo' hi' : ℕ) → hi' ≤ lo → SameOutside lo hi x y → SameWithin lo' hi' x y
below_range lo' hi' h s i a b = s.byte i (inl (omega arith))

pub above_range : {lo hi : ℕ} {x y : List ℕ} (lo' hi' : ℕ) → hi ≤ lo' → SameOutside lo hi x y → SameWithin lo' hi' x y
above_range lo' hi' h s i a b = s.byte i (inr (omega arith))

-- a place reads only its byte
pub get-same : (x y : List ℕ) (p : Place) → get_or y p.byte 0 ≡ get_or x p.byte 0 → get y p ≡ get x p
unfolding get
get-same x y p e = rw e

pub get-within : {lo hi : ℕ} (x y : List ℕ) (p : Place) → lo ≤ p.byte → p.byte < hi → SameWithin lo hi x y → get y p ≡ get x p
get-within x y p a b s = get-same x y p (s p.byte a b)
