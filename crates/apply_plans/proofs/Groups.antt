-- A group is the same from each of its lanes. Assumes nothing.
use mathlib.Core.Path.{◌≡◌, refl, sym, ap, ◌∙◌}
use mathlib.Core.Bool.{Bool, true, false}
use mathlib.Core.Logic.{⊎_elim}
use mathlib.Core.List.{List}
use Prim.Native.Nat.{ℕ, ◌<◌}
use borrow.Author.Tests.{not-true, eqb-true, eq-eqb}
use lib.Dec.{eqb}
use Rattle.bits.specs.Choice.{pick, both, either}
use Rattle.bits.specs.Sets.{has, mask_of, lane_count}
use Rattle.bits.proofs.Masks.{has-mask, mask_ext}
use Rattle.bits.proofs.Tests.{split, bool_eq, both_l, both_r, either_cases, either_i_r}
use Rattle.model.specs.View.{View, of, is_used, path_id, same_path}
use Rattle.model.specs.Groups.{joined, released_with, in_group, group_of}
use Rattle.model.specs.declared.lane.Settings.{Settings}

-- two lanes of one path have the same lanes on it, themselves included
module _ (active : List Settings) (k l : ℕ) (e : same_path active k l ≡ true) where
  first_used : is_used (of active k) ≡ true
  unfolding same_path
  first_used = both_l _ _ e

  second_used : is_used (of active l) ≡ true
  unfolding same_path
  second_used = both_l _ _ (both_r _ _ e)

  same_id : path_id (of active k) ≡ path_id (of active l)
  unfolding same_path
  same_id = eqb-true _ _ (both_r _ _ (both_r _ _ e))

  from_either : (m : ℕ) → same_path active l m ≡ same_path active k m
  unfolding same_path
  from_either m = rw (first_used, second_used, same_id)

  with_second : (m : ℕ) → eqb l m ≡ true → same_path active k m ≡ true
  with_second m q = rw (← (eqb-true l m q)) e

  with_first : (m : ℕ) → eqb k m ≡ true → same_path active k m ≡ true
  unfolding same_path both
  with_first m q = rw (← (eqb-true k m q), first_used, both, eq-eqb (path_id (of active k)) _ refl)

  absorbed : (b s : Bool) → (b ≡ true → s ≡ true) → either b s ≡ s
  absorbed b s h = bool_eq _ _ (λ t. ⊎_elim h (λ q. q) (either_cases b s t)) (either_i_r b s)

  pub path_same : (m : ℕ) → either (eqb l m) (same_path active l m) ≡ either (eqb k m) (same_path active k m)
  path_same m =
      rw (from_either m)
      (absorbed _ _ (with_second m) ∙ sym (absorbed _ _ (with_first m)))

module _ (v : View) (g k l : ℕ) where
  among : has (group_of v g k) l ≡ true → l < lane_count → in_group v g k l ≡ true
  unfolding group_of
  among e b = sym (has-mask lane_count (in_group v g k) l b) ∙ e

  -- lanes that are set up together
  joined_lane : is_used (of v.staged k) ≡ true → in_group v g k l ≡ true → joined v.staged k l ≡ true
  unfolding in_group pick
  joined_lane u e = both_r (has g l) _ (rw (u, pick) at e)

  set_up : is_used (of v.staged k) ≡ true → joined v.staged k l ≡ true → group_of v g l ≡ group_of v g k
  unfolding group_of in_group joined pick
  set_up u e =
      let used : is_used (of v.staged l) ≡ true = both_l _ _ e in
      let id : path_id (of v.staged k) ≡ path_id (of v.staged l) = eqb-true _ _ (both_r _ _ e) in
      mask_ext lane_count _ _ (λ m b. rw (used, u, pick, id))

  -- lanes that are released together
  released_lane : is_used (of v.staged k) ≡ false → in_group v g k l ≡ true → released_with v.active v.staged k l ≡ true
  unfolding in_group pick
  released_lane u e = both_r (has g l) _ (rw (u, pick) at e)

  by_path : is_used (of v.staged k) ≡ false → is_used (of v.staged l) ≡ false → same_path v.active k l ≡ true → group_of v g l ≡ group_of v g k
  unfolding group_of in_group released_with pick
  by_path u w e = mask_ext lane_count _ _ (λ m b. rw (u, w, pick, path_same v.active k l e m))

  released : is_used (of v.staged k) ≡ false → released_with v.active v.staged k l ≡ true → group_of v g l ≡ group_of v g k
  unfolding released_with
  released u e =
      ⊎_elim
      (λ q. ap (group_of v g) (sym (eqb-true k l q)))
      (λ p. by_path u (not-true _ (both_l _ _ e)) p)
      (either_cases (eqb k l) (same_path v.active k l) (both_r _ _ e))

  pub group-same : has (group_of v g k) l ≡ true → l < lane_count → group_of v g l ≡ group_of v g k
  group-same e b =
      let i : in_group v g k l ≡ true = among e b in
      split (is_used (of v.staged k)) (λ u. set_up u (joined_lane u i)) (λ u. released u (released_lane u i))
