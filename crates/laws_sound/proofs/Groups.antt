-- How lanes fall into groups at a trigger, and what a passing verdict tells. Over a view alone. Assumes nothing.
use Rattle.std.proofs.Common.{None, Some, Option}
use mathlib.Core.Path.{◌≡◌, refl, sym, ap, ◌∙◌}
use mathlib.Core.Bool.{Bool, true, false}
use mathlib.Core.Logic.{inl, inr}
use Prim.Native.Nat.{ℕ, ◌+◌, ◌≤◌, ◌<◌}
use native.Mathlib.Omega.{arith}
use lib.Dec.{eqb}
use borrow.Author.Tests.{ltb-false, eqb-true, eq-eqb, not-true, not-false}
use Rattle.bits.specs.Choice.{pick, both, either}
use Rattle.bits.specs.Sets.{has, mask_of, within, first_in}
use Rattle.bits.proofs.Tests.{split, clash, bool_eq, both_l, both_r, both_i, either_l, either_r, either_cases, either_i_l, either_i_r, pick_true, pick-false}
use Rattle.bits.proofs.Loops.{any_none}
use Rattle.bits.proofs.Masks.{has-mask, mask_ext, mask_lt, mask-of-has, first_in_lem}
use Rattle.model.specs.Statuses.{rejected, invalid_application, invalid_path, invalid_settings, lanes_in_use, partial_path}
use Rattle.model.specs.PathStates.{state_of, resting}
use Rattle.model.specs.View.{View, of, application_in, app_sel, path_id, is_used, same_path, path_of}
use Rattle.model.specs.Groups.{joined, released_with, in_group, group_of}
use Rattle.model.specs.Verdicts.{deactivated, group_state, other_app_sel, misplaced, incomplete, crossing, wrong_state, passed, apply_by, apply_verdict, path_release, release_verdict, verdict_of}
use Rattle.model.specs.declared.lane.Trigger.{Trigger}
use Rattle.model.specs.declared.lane.Verdict.{Verdict}
use Rattle.model.specs.declared.lane.Verdict.TheVariants.{Pass, Reject}
use Rattle.model.specs.declared.application.Descriptor.{Descriptor}
use Rattle.laws_sound.proofs.Paths.{same_sym, same_trans}
use Rattle.laws_sound.proofs.Test.{some_none}

-- ---- groups
module _ (v : View) (sel : ℕ) where
  in_selected : (l m : ℕ) → in_group v sel l m ≡ true → has sel m ≡ true
  unfolding in_group
  in_selected l m e = both_l _ _ e

  -- lanes set up together
  pub in_used : (l m : ℕ) → in_group v sel l m ≡ true → is_used (of v.staged l) ≡ true
      → (is_used (of v.staged m) ≡ true) × (path_id (of v.staged l) ≡ path_id (of v.staged m))
  unfolding in_group joined
  in_used l m e u = let r = sym (pick_true _ _ u) ∙ both_r _ _ e in (both_l _ _ r, eqb-true _ _ (both_r _ _ r))

  -- lanes released together
  pub in_unused : (l m : ℕ) → in_group v sel l m ≡ true → is_used (of v.staged l) ≡ false
      → (is_used (of v.staged m) ≡ false) × (either (eqb l m) (same_path v.active l m) ≡ true)
  unfolding in_group released_with
  in_unused l m e u = let r = sym (pick-false _ _ u) ∙ both_r _ _ e in (not-true _ (both_l _ _ r), both_r _ _ r)

  pub in_self : (l : ℕ) → has sel l ≡ true → in_group v sel l l ≡ true
  unfolding in_group joined released_with
  in_self l s = both_i s (split (is_used (of v.staged l))
      (λ u. pick_true (joined v.staged l l) (released_with v.active v.staged l l) u ∙ both_i u (eq-eqb (path_id (of v.staged l)) _ refl))
      (λ u. pick-false (joined v.staged l l) (released_with v.active v.staged l l) u ∙ both_i (rw u) (either_i_l _ _ (eq-eqb l l refl))))

  -- who leaves with l leaves with whoever leaves with l
  turn : (l m k : ℕ) → same_path v.active l m ≡ true → either (eqb l k) (same_path v.active l k) ≡ true → either (eqb m k) (same_path v.active m k) ≡ true
  turn l m k s e = either_i_r _ _ (elim (either_cases _ _ e) [
    | inl q ↦ let r : l ≡ k = eqb-true l k q in rw (← r) (same_sym v.active l m s)
    | inr t ↦ same_trans v.active m l k (same_sym v.active l m s) t
  ])

  leave_same : (l m k : ℕ) → either (eqb l m) (same_path v.active l m) ≡ true
      → either (eqb m k) (same_path v.active m k) ≡ either (eqb l k) (same_path v.active l k)
  leave_same l m k e = elim (either_cases _ _ e) [
    | inl q ↦ let r : l ≡ m = eqb-true l m q in rw r
    | inr s ↦ bool_eq _ _ (turn m l k (same_sym v.active l m s)) (turn l m k s)
  ]

  joined_same : (l m k : ℕ) → path_id (of v.staged l) ≡ path_id (of v.staged m) → joined v.staged m k ≡ joined v.staged l k
  unfolding joined
  joined_same l m k e = rw e

  released_same : (l m k : ℕ) → either (eqb l m) (same_path v.active l m) ≡ true
      → released_with v.active v.staged m k ≡ released_with v.active v.staged l k
  unfolding released_with
  released_same l m k e = rw (leave_same l m k e)

  in_same : (l m k : ℕ) → in_group v sel l m ≡ true → in_group v sel m k ≡ in_group v sel l k
  unfolding in_group
  in_same l m k e = ap (both (has sel k)) (split (is_used (of v.staged l))
      (λ u. let r = in_used l m e u in pick_true _ _ r.0 ∙ joined_same l m k r.1 ∙ sym (pick_true _ _ u))
      (λ u. let r = in_unused l m e u in pick-false _ _ r.0 ∙ released_same l m k r.1 ∙ sym (pick-false _ _ u)))

  pub group-has : (l m : ℕ) → m < 8 → has (group_of v sel l) m ≡ in_group v sel l m
  unfolding group_of
  group-has l m b = has-mask 8 (in_group v sel l) m b

  pub group-same : (l m : ℕ) → m < 8 → has (group_of v sel l) m ≡ true → group_of v sel m ≡ group_of v sel l
  unfolding group_of
  group-same l m b i = mask_ext 8 (in_group v sel m) (in_group v sel l) (λ k bk. in_same l m k (sym (group-has l m b) ∙ i))

  pub group_selected : (l m : ℕ) → m < 8 → has (group_of v sel l) m ≡ true → has sel m ≡ true
  group_selected l m b i = in_selected l m (sym (group-has l m b) ∙ i)

  pub group_self : (l : ℕ) → l < 8 → has sel l ≡ true → has (group_of v sel l) l ≡ true
  group_self l b s = group-has l l b ∙ in_self l s

  -- the lanes of a group, seen from its first lane
  pub from_first : (l m : ℕ) → l < 8 → m < 8 → has sel l ≡ true → has (group_of v sel l) m ≡ true
      → in_group v sel (first_in (group_of v sel l)) m ≡ true
  from_first l m b bm s i =
      let f = first_in_lem 8 (group_of v sel l) 0 l (omega arith) b (group_self l b s) in
      sym (group-has (first_in (group_of v sel l)) m bm) ∙ ap (λ z. has z m) (group-same l (first_in (group_of v sel l)) f.0 f.1) ∙ i

  -- a set of lanes below 8, as a group is, is what its lanes say
  pub group_ext : (l : ℕ) (c : ℕ → Bool) → ((m : ℕ) → m < 8 → has (group_of v sel l) m ≡ c m) → group_of v sel l ≡ mask_of 8 c
  unfolding group_of
  group_ext l c h = sym (mask-of-has 8 (group_of v sel l) (mask_lt 8 (in_group v sel l))) ∙ mask_ext 8 (has (group_of v sel l)) c h

-- ---- what a verdict can be
pub record Fair (g : ℕ) (u : Verdict) : Type 0 where
  pub next : (n : ℕ) → u ≡ Pass n → n ≡ first_in g
  pub code : (c : ℕ) → u ≡ Reject c → (2 ≤ c) × (c ≤ 7)

fair_pass : (g : ℕ) → Fair g (passed g)
fair_pass g = record { next = λ n e. cc; code = λ c e. let z : ◌≡◌ {A = ℕ} 0 1 = cc in absurd (omega arith) }

fair_code : (g d : ℕ) → 2 ≤ d → d ≤ 7 → Fair g (Reject d)
fair_code g d a b = record {
  next = λ n e. let z : ◌≡◌ {A = ℕ} 0 1 = cc in absurd (omega arith);
  code = λ c e. let z : d ≡ c = cc in (omega arith, omega arith);
}

fair_pick : (g : ℕ) (b : Bool) (u w : Verdict) → Fair g u → Fair g w → Fair g (pick b u w)
unfolding pick
fair_pick g true u w p q = p
fair_pick g false u w p q = q

module _ (t : Trigger) (v : View) (g : ℕ) where
  fair_apply : (a : Option Descriptor) (f n : ℕ) → Fair g (apply_by a t v g f n)
  unfolding apply_by
  fair_apply None f n = fair_code g invalid_application (omega arith) (omega arith)
  fair_apply (Some d) f n =
      fair_pick g _ _ _ (fair_code g invalid_path (omega arith) (omega arith))
      (fair_pick g _ _ _ (fair_code g partial_path (omega arith) (omega arith))
      (fair_pick g _ _ _ (fair_code g lanes_in_use (omega arith) (omega arith))
      (fair_pick g _ _ _ (fair_code g invalid_settings (omega arith) (omega arith))
      (fair_pick g _ _ _ (fair_code g rejected (omega arith) (omega arith)) (fair_pass g)))))

  pub fair : Fair g (verdict_of t v g)
  unfolding verdict_of apply_verdict release_verdict path_release
  fair = fair_pick g _ _ _
      (fair_pick g _ _ _ (fair_code g invalid_path (omega arith) (omega arith)) (fair_apply _ _ _))
      (fair_pick g _ _ _
      (fair_pick g _ _ _ (fair_code g partial_path (omega arith) (omega arith))
      (fair_pick g _ _ _ (fair_code g lanes_in_use (omega arith) (omega arith)) (fair_pass g))) (fair_pass g))

-- ---- what a pass tells

-- a reason to reject did not apply
no_reason : (b : Bool) (c n : ℕ) (u : Verdict) → pick b (Reject c) u ≡ Pass n → (b ≡ false) × (u ≡ Pass n)
unfolding pick
no_reason true c n u e = let z : ◌≡◌ {A = ℕ} 0 1 = cc in absurd (omega arith)
no_reason false c n u e = (refl, e)

-- settings that pass: one AppSel, whose descriptor the group fills; nothing of another path; a state to rest in
pub record Applied (v : View) (g f a : ℕ) : Type 0 where
  pub alike : (m : ℕ) → m < 8 → has g m ≡ true → app_sel (of v.staged m) ≡ a
  pub descriptor : Descriptor
  pub found : application_in v.applications a ≡ Some descriptor
  pub allowed : has descriptor.firsts f ≡ true
  pub room : f + descriptor.count ≤ 8
  pub exact : (m : ℕ) → m < 8 → has g m ≡ within f descriptor.count m
  pub own_path : (m : ℕ) → m < 8 → has g m ≡ true → is_used (of v.active m) ≡ true → path_of v.active m ≡ g
  pub rests : resting (state_of (group_state v g)) ≡ true

module _ (t : Trigger) (v : View) (g n : ℕ) where
  no_crossing : crossing v.active g ≡ false → (m : ℕ) → m < 8 → has g m ≡ true → is_used (of v.active m) ≡ true → path_of v.active m ≡ g
  unfolding crossing
  no_crossing e m b i u = split (eqb (path_of v.active m) g)
      (λ q. eqb-true _ _ q)
      (λ q. absurd (clash (both_i u (rw q)) (some_none g _ e m b i)))

  one_app : (a : ℕ) → other_app_sel v.staged g a ≡ false → (m : ℕ) → m < 8 → has g m ≡ true → app_sel (of v.staged m) ≡ a
  unfolding other_app_sel
  one_app a e m b i = eqb-true _ _ (not-false _ (some_none g _ e m b i))

  placed : (d : Descriptor) (f : ℕ) → misplaced d f g ≡ false
      → (has d.firsts f ≡ true) × (f + d.count ≤ 8) × ((m : ℕ) → m < 8 → has g m ≡ true → within f d.count m ≡ true)
  unfolding misplaced
  placed d f e = (
    not-false _ (either_l _ _ e),
    ltb-false _ _ (either_l _ _ (either_r _ _ e)),
    λ m b i. not-false _ (some_none g _ (either_r _ _ (either_r _ _ e)) m b i),
  )

  complete : (d : Descriptor) (f : ℕ) → incomplete d f g ≡ false → (m : ℕ) → m < 8 → within f d.count m ≡ true → has g m ≡ true
  unfolding incomplete
  complete d f e m b w = split (has g m) (λ i. i) (λ i. absurd (clash (both_i w (rw i)) (any_none 8 _ e m b)))

  applied_by : (a f : ℕ) (k : Option Descriptor) → application_in v.applications a ≡ k → apply_by k t v g f a ≡ Pass n
      → ((m : ℕ) → m < 8 → has g m ≡ true → app_sel (of v.staged m) ≡ a) → Applied v g f a
  unfolding apply_by wrong_state
  applied_by a f None q e s = let z : ◌≡◌ {A = ℕ} 0 1 = cc in absurd (omega arith)
  applied_by a f (Some d) q e s =
      let r₁ = no_reason _ _ n _ e in
      let r₂ = no_reason _ _ n _ r₁.1 in
      let r₃ = no_reason _ _ n _ r₂.1 in
      let r₄ = no_reason _ _ n _ r₃.1 in
      let r₅ = no_reason _ _ n _ r₄.1 in
      let at = placed d f r₁.0 in
      record {
        alike = s;
        descriptor = d;
        found = q;
        allowed = at.0;
        room = at.1;
        exact = λ m b. bool_eq _ _ (at.2 m b) (complete d f r₂.0 m b);
        own_path = no_crossing r₃.0;
        rests = not-false _ (either_l _ _ r₅.0);
      }

  pub applied : (f a : ℕ) → apply_verdict t v g f a ≡ Pass n → Applied v g f a
  unfolding apply_verdict
  applied f a e = let r = no_reason _ _ n _ e in applied_by a f (application_in v.applications a) refl r.1 (one_app a r.0)

  -- the release of a path: its lanes are the group, and it is deactivated
  pub released_path : is_used (of v.active (first_in g)) ≡ true → release_verdict v g ≡ Pass n
      → (path_of v.active (first_in g) ≡ g) × (group_state v g ≡ deactivated)
  unfolding release_verdict path_release
  released_path u e =
      let r₁ = no_reason _ _ n _ (sym (pick_true _ _ u) ∙ e) in
      let r₂ = no_reason _ _ n _ r₁.1 in
      (eqb-true _ _ (not-false _ r₁.0), eqb-true _ _ (not-false _ r₂.0))

  pub apply_pass : verdict_of t v g ≡ Pass n → is_used (of v.staged (first_in g)) ≡ true
      → Applied v g (path_id (of v.staged (first_in g))) (app_sel (of v.staged (first_in g)))
  unfolding verdict_of
  apply_pass e u = applied _ _ (sym (pick_true _ _ u) ∙ e)

  pub release_pass : verdict_of t v g ≡ Pass n → is_used (of v.staged (first_in g)) ≡ false → release_verdict v g ≡ Pass n
  unfolding verdict_of
  release_pass e u = sym (pick-false _ _ u) ∙ e
