-- An address as the start of its half of memory and an offset. Assumes nothing.
use mathlib.Core.Path.{◌≡◌}
use Prim.Native.Nat.{ℕ, ◌+◌, ◌%◌, ◌≤◌, ◌<◌}
use native.Mathlib.Omega.{arith}
use lib.Dec.{ltb}
use borrow.Author.Tests.{ltb-true, ltb-false}
use Rattle.bits.specs.Choice.{pick}
use Rattle.bits.proofs.Tests.{split}
use Rattle.model.specs.Map.{Image, image_length}
use Rattle.model.specs.Pages.{index_of}
use Rattle.model.specs.Access.{half_end}
use Rattle.model.proofs.Starts.{start_fits}
use Rattle.pages.specs.Halves.{half_length, half_start}

module _ (x : Image) (a : ℕ) where
  -- the place of an address is an offset of its half
  pub place_by : a < 256 → half_start x a + a % half_length ≡ index_of x a
  unfolding half_start index_of pick
  place_by h = split (ltb a half_length)
      (λ t. let l : a < half_length = ltb-true a half_length t in rw (t, pick) (omega arith))
      (λ f. let l : half_length ≤ a = ltb-false a half_length f in rw (f, pick) (omega arith))

  -- a half lies in the image
  pub half_fits : half_start x a + half_length ≤ image_length
  unfolding half_start pick
  half_fits = split (ltb a half_length) (λ t. rw (t, pick) (omega arith)) (λ f. rw (f, pick) (start_fits x))

-- the bytes of an access that ends in its own half
pub offset-fits : (a n : ℕ) → a + n ≤ half_end a → a % half_length + n ≤ half_length
unfolding half_end pick
offset-fits a n h = split (ltb a half_length)
    (λ t. let l : a + n ≤ half_length = rw (t, pick) at h in let b : a < half_length = ltb-true a half_length t in omega arith)
    (λ f. let l : a + n ≤ 256 = rw (f, pick) at h in let b : half_length ≤ a = ltb-false a half_length f in omega arith)

-- .. lie in the image
pub index_fits : (x : Image) (a n : ℕ) → a < 256 → a + n ≤ half_end a → index_of x a + n ≤ image_length
index_fits x a n b h = rw (← place_by x a b) (omega (arith, half_fits x a, offset-fits a n h))
