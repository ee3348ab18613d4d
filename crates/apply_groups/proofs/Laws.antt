-- The group of a lane as a set, by whether the lane is used in the staged set. Assumes nothing.
use mathlib.Core.Path.{◌≡◌, sym, ◌∙◌}
use mathlib.Core.Bool.{true, false}
use Prim.Native.Nat.{ℕ, ◌-◌, ◌^◌, ◌<◌}
use lib.Bits.{bit_and}
use lib.Dec.{eqb}
use mir.Val.{bool_byte}
use Rattle.bits.specs.Choice.{pick}
use Rattle.bits.specs.Number.{with_field}
use Rattle.bits.specs.Sets.{has, mask_of, lane_count}
use Rattle.bits.proofs.Masks.{mask_ext, mask-of-has}
use Rattle.bits.proofs.Sets.{rest_is, with_is, and_is}
use Rattle.bits.proofs.Tests.{eqb_sym}
use Rattle.model.specs.View.{View, of, is_used, path_id, path_of}
use Rattle.model.specs.Groups.{joined, released_with, in_group, group_of}

module _ (v : View) (g l u : ℕ) (fits : g < 2 ^ lane_count) (used : u ≡ mask_of lane_count (λ m. is_used (of v.staged m))) where
  pub group-used : (f w : ℕ) → is_used (of v.staged l) ≡ true → f ≡ path_id (of v.staged l)
      → w ≡ mask_of lane_count (λ m. eqb (path_id (of v.staged m)) f) → bit_and g (bit_and u w) ≡ group_of v g l
  unfolding group_of in_group joined pick
  group-used f w e i p =
      and_is lane_count (has g) _ (sym (mask-of-has lane_count g fits)) (and_is lane_count _ _ used p)
      ∙ mask_ext lane_count _ _ (λ m h. rw (e, pick, i, eqb_sym (path_id (of v.staged m)) (path_id (of v.staged l))))

  pub group_released : (path w : ℕ) → is_used (of v.staged l) ≡ false → l < lane_count → path ≡ path_of v.active l
      → w ≡ with_field path l 1 (bool_byte true) → bit_and g (bit_and (2 ^ lane_count - 1 - u) w) ≡ group_of v g l
  unfolding group_of in_group released_with path_of pick
  group_released path w e b i p =
      and_is lane_count (has g) _ (sym (mask-of-has lane_count g fits)) (and_is lane_count _ _ (rest_is lane_count _ used) (p ∙ with_is lane_count _ i l b))
      ∙ mask_ext lane_count _ _ (λ m h. rw (e, pick))
