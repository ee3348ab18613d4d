-- The contract of a read: all that it leaves, as model says it.
use Rattle.std.specs.Prelude.{◌≡◌, List, Bool, ℕ, ◌+◌, set}
use Rattle.bits.specs.Loop.{each}
use Rattle.model.specs.Map.{Image}
use Rattle.model.specs.Access.{taken_bytes, cleared_image}
use Rattle.model.specs.Outcome.{laid_over}

-- n bytes of the image x were read from place i on: those that a read clears are 0, and their values as they were lie at the front of the buffer
pub record ReadOut (x : Image) (i n : ℕ) (buffer image_left buffer_left : List ℕ) : Type 0 where
  pub image : image_left ≡ cleared_image x i n
  pub bytes : buffer_left ≡ laid_over (taken_bytes x i n) buffer

-- of n bytes of the image x from place i on, those that pass a test of how far on they are, cleared
unfoldable pub zeroed : (ℕ → Bool) → ℕ → ℕ → Image → Image
zeroed c i n x = each c (λ k y. set y (i + k) 0) n x
