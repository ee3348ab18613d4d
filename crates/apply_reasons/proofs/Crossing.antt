-- Lanes of a group on paths of other lanes, told by the group's first used lane. Assumes nothing.
use mathlib.Core.Path.{◌≡◌, sym, ap, ◌∙◌}
use mathlib.Core.Bool.{true, false, not}
use mathlib.Core.List.{List}
use Prim.Native.Nat.{ℕ, ◌≤◌, ◌<◌}
use native.Mathlib.Omega.{arith}
use lib.Bits.{bit_and}
use lib.Dec.{eqb}
use borrow.Author.Tests.{not-true, eqb-false, ne_eqb}
use Rattle.bits.specs.Choice.{both}
use Rattle.bits.specs.Sets.{has, mask_of, next_in, lane_count, some_in}
use Rattle.bits.proofs.Loops.{any_one, any_find, none_any}
use Rattle.bits.proofs.Masks.{next_skips, next_in_lem}
use Rattle.bits.proofs.Sets.{has_and, in_set}
use Rattle.bits.proofs.Tests.{split, bool_eq, both_l, both_r, both_i}
use Rattle.model.specs.View.{of, is_used, path_of}
use Rattle.model.specs.Verdicts.{crossing}
use Rattle.model.specs.declared.lane.Settings.{Settings}
use Rattle.view_paths.proofs.Lanes.{path_shared}

module _ (s : List Settings) (g u f : ℕ) (used : u ≡ mask_of lane_count (λ m. is_used (of s m))) (first : f ≡ next_in lane_count (bit_and g u) 0) where
  -- the group's used lanes
  used_in : (m : ℕ) → m < lane_count → has (bit_and g u) m ≡ both (has g m) (is_used (of s m))
  used_in m h = has_and g u m ∙ ap (both (has g m)) (in_set lane_count _ used m h)

  pub cross_none : lane_count ≤ f → false ≡ crossing s g
  unfolding crossing some_in both
  cross_none h = sym (none_any lane_count _ (λ m b. split (has g m)
      (λ e. rw (e, both) (rw (rw (e, both) at (sym (used_in m b) ∙ next_skips lane_count (bit_and g u) 0 m (omega arith) (omega arith)), both)))
      (λ e. rw (e, both))))

  pub cross_first : f < lane_count → not (eqb (path_of s f) g) ≡ crossing s g
  unfolding crossing some_in
  cross_first h = bool_eq _ _
      (λ e. any_one lane_count _ f h (both_i in_group_lem (both_i on_path e)))
      (λ e. let r = any_find lane_count _ e in
      let m = r.0 in
      let inside : has g m ≡ true = both_l _ _ r.2 in
      let other : not (eqb (path_of s m) g) ≡ true = both_r _ _ (both_r (has g m) _ r.2) in
      rw (ne_eqb (path_of s f) g (λ q. eqb-false (path_of s m) g (not-true _ other) (sym (path_shared s f m r.1 (ap (λ k. has k m) q ∙ inside)) ∙ q))))
    where
      is_first : both (has g f) (is_used (of s f)) ≡ true
      is_first = sym (used_in f h) ∙ rw first (next_in_lem lane_count (bit_and g u) 0 (rw (← first) h))

      in_group_lem : has g f ≡ true
      in_group_lem = both_l _ _ is_first

      on_path : is_used (of s f) ≡ true
      on_path = both_r (has g f) _ is_first
