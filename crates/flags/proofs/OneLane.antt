-- A set of one lane, or of none, and the flag that it raises. Assumes nothing.
use mathlib.Core.Path.{◌≡◌, ap, ◌∙◌}
use mathlib.Core.Bool.{Bool, true, false}
use mathlib.Core.List.{List}
use mathlib.Core.Logic.{◌≢◌}
use Prim.Native.Nat.{ℕ, ◌<◌}
use native.Mathlib.Decide.{ℕ_discrete}
use native.Mathlib.Omega.{arith}
use mir.Val.{bool_byte}
use Rattle.bits.specs.Choice.{only_if}
use Rattle.bits.specs.Lane.{lane_field}
use Rattle.bits.specs.Loop.{each}
use Rattle.bits.specs.Number.{with_field}
use Rattle.bits.specs.Place.{put}
use Rattle.bits.specs.Sets.{has}
use Rattle.bits.proofs.Loops.{each_skip, each_hit}
use Rattle.bits.proofs.Masks.{has-put, has-put_other}
use Rattle.bits.proofs.Sets.{has-zero}
use Rattle.bits.proofs.Tests.{clash}
use Rattle.model.specs.Map.{Image, page11, on}
use Rattle.model.specs.Flags.{raised_image}

-- the set has no other lane
no_other : (l : ℕ) (b : Bool) (k : ℕ) → k ≢ l → has (with_field 0 l 1 (bool_byte b)) k ≡ false
no_other l b k n = has-put_other 0 l b k n ∙ has-zero k

-- a change at each of its lanes is the change at the one, where the test holds
one_lane_lem : (f : ℕ → List ℕ → List ℕ) (l : ℕ) (b : Bool) (x : List ℕ) → l < 8 → each (has (with_field 0 l 1 (bool_byte b))) f 8 x ≡ only_if b (f l) x
unfolding only_if
one_lane_lem f l true x h =
    each_hit (has (with_field 0 l 1 (bool_byte true))) f (λ y. y) l 8 x h (has-put 0 l true) (λ k y a d t. absurd (clash t (no_other l true k (omega arith))))
    ∙ ap (f l) (each_skip (has (with_field 0 l 1 (bool_byte true))) f (λ y. y) l x (λ k y d t. absurd (clash t (no_other l true k (omega arith)))))
one_lane_lem f l false x h = each_skip (has (with_field 0 l 1 (bool_byte false))) f (λ y. y) 8 x (λ k y d t. absurd (clash t (none k)))
  where
    none : (k : ℕ) → has (with_field 0 l 1 (bool_byte false)) k ≡ false
    none k = elim (ℕ_discrete k l) [ yes e ↦ rw e (has-put 0 l false) | no n ↦ no_other l false k n ]

pub raised_by : (x y : Image) (flag l at s : ℕ) (b : Bool) → l < 8 → at ≡ on page11 flag → s ≡ with_field 0 l 1 (bool_byte b)
    → y ≡ each (has s) (λ k z. put z (lane_field at 1 k) 1) 8 x → y ≡ raised_image b flag l x
unfolding raised_image
raised_by x y flag l at s b h ha hs hy = hy ∙ rw (hs, ha) (one_lane_lem (λ k z. put z (lane_field (on page11 flag) 1 k) 1) l b x h)
