-- A trigger decides alike for a lane outside A: which lanes are its group, whether it is marked, and the verdict, over the view. Assumes nothing.
use Rattle.std.proofs.Common.{None, Some, Option}
use mathlib.Core.Path.{◌≡◌, refl, sym, ◌∙◌}
use mathlib.Core.Bool.{Bool, true, false}
use Prim.Native.Nat.{ℕ, ◌<◌}
use native.Mathlib.Omega.{arith}
use Rattle.bits.specs.Choice.{both}
use Rattle.bits.specs.Sets.{has, first_in, some_in}
use Rattle.bits.proofs.Tests.{split, clash, both_l, pick_true, pick-false}
use Rattle.bits.proofs.Loops.{any_ext}
use Rattle.bits.proofs.Masks.{has-mask, mask_ext, first_in_lem}
use Rattle.model.specs.Records.{stage_at, any_in_progress}
use Rattle.model.specs.View.{View, of, state_in, application_in, same_path, path_of}
use Rattle.model.specs.Groups.{joined, released_with, in_group, group_of}
use Rattle.model.specs.Verdicts.{other_app_sel, crossing, unsupported, too_late, wrong_state, apply_by, apply_verdict, path_release, release_verdict, verdict_of}
use Rattle.model.specs.Triggers.{is_marked, marked_stage, stage_after}
use Rattle.model.specs.declared.application.Descriptor.{Descriptor}
use Rattle.model.specs.declared.lane.StagedSet.{StagedSet}
use Rattle.model.specs.declared.lane.Trigger.{Trigger}
use Rattle.model.specs.declared.lane.Trigger.TheVariants.{DpInit, Immediate}
use Rattle.model.specs.declared.lane.Working.{Working}
use Rattle.laws_links.specs.Links.{GroupsParted}

-- what two runs show of lanes outside A
pub record Shows (A : ℕ) (v u : View) : Type 0 where
  pub active : (l : ℕ) → l < 8 → has A l ≡ false → of v.active l ≡ of u.active l
  pub staged : (l : ℕ) → l < 8 → has A l ≡ false → of v.staged l ≡ of u.staged l
  pub states : (l : ℕ) → l < 8 → has A l ≡ false → state_in v.states l ≡ state_in u.states l
  pub applications : v.applications ≡ u.applications
  pub limits : v.limits ≡ u.limits
  pub paths : (l m : ℕ) → l < 8 → m < 8 → same_path v.active l m ≡ true → has A m ≡ has A l
  pub paths' : (l m : ℕ) → l < 8 → m < 8 → same_path u.active l m ≡ true → has A m ≡ has A l

module _ (A : ℕ) (v u : View) (S : Shows A v u) where
  -- ---- paths
  pub path_out : (l m : ℕ) → l < 8 → m < 8 → has A l ≡ false → same_path v.active l m ≡ same_path u.active l m
  unfolding same_path
  path_out l m hl hm a = split (has A m)
      (λ b. split (same_path v.active l m) (λ e. absurd (clash b (S.paths l m hl hm e ∙ a))) (λ e. e)
      ∙ sym (split (same_path u.active l m) (λ e. absurd (clash b (S.paths' l m hl hm e ∙ a))) (λ e. e)))
      (λ b. rw (S.active l hl a, S.active m hm b))

  pub paths-out : (l : ℕ) → l < 8 → has A l ≡ false → path_of v.active l ≡ path_of u.active l
  unfolding path_of
  paths-out l hl a = mask_ext 8 _ _ (λ m hm. path_out l m hl hm a)

  -- ---- a group outside A

  module _ (g : ℕ) (out : (m : ℕ) → m < 8 → has g m ≡ true → has A m ≡ false) where
    some_out : (p q : ℕ → Bool) → ((m : ℕ) → m < 8 → has A m ≡ false → p m ≡ q m) → some_in g p ≡ some_in g q
    unfolding some_in both
    some_out p q h = any_ext 8 _ _ (λ m hm. split (has g m) (λ i. rw (i, both) (h m hm (out m hm i))) (λ i. rw (i, both)))

    staged-out : (a : ℕ) → other_app_sel v.staged g a ≡ other_app_sel u.staged g a
    unfolding other_app_sel
    staged-out a = some_out _ _ (λ m hm b. rw (S.staged m hm b))

    active-out : (a : ℕ) → other_app_sel v.active g a ≡ other_app_sel u.active g a
    unfolding other_app_sel
    active-out a = some_out _ _ (λ m hm b. rw (S.active m hm b))

    crossing-out : crossing v.active g ≡ crossing u.active g
    unfolding crossing
    crossing-out = some_out _ _ (λ m hm b. rw (S.active m hm b, paths-out m hm b))

    unsupported-out : unsupported v g ≡ unsupported u g
    unfolding unsupported
    unsupported-out = some_out _ _ (λ m hm b. rw (S.staged m hm b, S.limits))

    -- .. that has a lane
    module _ (l : ℕ) (hl : l < 8) (i : has g l ≡ true) where
      first : (first_in g < 8) × (has A (first_in g) ≡ false)
      first = let f = first_in_lem 8 g 0 l (omega arith) hl i in (f.0, out (first_in g) f.0 f.1)

      late-out : (t : Trigger) (a : ℕ) → too_late t v g a ≡ too_late t u g a
      unfolding too_late
      late-out DpInit a = refl
      late-out Immediate a = rw (S.states (first_in g) first.0 first.1, active-out a)

      wrong-out : (t : Trigger) (a : ℕ) → wrong_state t v g a ≡ wrong_state t u g a
      unfolding wrong_state
      wrong-out t a = rw (S.states (first_in g) first.0 first.1, late-out t a)

      by_out : (d : Option Descriptor) (t : Trigger) (f a : ℕ) → apply_by d t v g f a ≡ apply_by d t u g f a
      unfolding apply_by
      by_out None t f a = refl
      by_out (Some d) t f a = rw (crossing-out, unsupported-out, wrong-out t a)

      apply-out : (t : Trigger) (f a : ℕ) → apply_verdict t v g f a ≡ apply_verdict t u g f a
      unfolding apply_verdict
      apply-out t f a = rw (staged-out a, by_out (application_in v.applications a) t f a, S.applications)

      release-out : release_verdict v g ≡ release_verdict u g
      unfolding release_verdict path_release
      release-out = rw (S.active (first_in g) first.0 first.1, paths-out (first_in g) first.0 first.1, S.states (first_in g) first.0 first.1)

      pub verdict-out : (t : Trigger) → verdict_of t v g ≡ verdict_of t u g
      unfolding verdict_of
      verdict-out t = rw (S.staged (first_in g) first.0 first.1, apply-out t _ _, release-out)

  -- ---- the groups of one trigger

  module _ (sel sel' : ℕ) (chosen : (l : ℕ) → l < 8 → has A l ≡ false → has sel l ≡ has sel' l) (G : GroupsParted A v sel) (G' : GroupsParted A u sel') where
    module _ (l : ℕ) (hl : l < 8) (a : has A l ≡ false) (s : has sel l ≡ true) where
      strange : (m : ℕ) → m < 8 → has A m ≡ true → in_group v sel l m ≡ false
      unfolding group_of
      strange m hm b = split (in_group v sel l m)
          (λ e. absurd (clash b (G l m hl hm s (has-mask 8 (in_group v sel l) m hm ∙ e) ∙ a))) (λ e. e)

      strange' : (m : ℕ) → m < 8 → has A m ≡ true → in_group u sel' l m ≡ false
      unfolding group_of
      strange' m hm b = split (in_group u sel' l m)
          (λ e. absurd (clash b (G' l m hl hm (sym (chosen l hl a) ∙ s) (has-mask 8 (in_group u sel' l) m hm ∙ e) ∙ a))) (λ e. e)

      in_out : (m : ℕ) → m < 8 → in_group v sel l m ≡ in_group u sel' l m
      unfolding in_group joined released_with
      in_out m hm = split (has A m)
          (λ b. strange m hm b ∙ sym (strange' m hm b))
          (λ b. rw (chosen m hm b, S.staged l hl a, S.staged m hm b, path_out l m hl hm a))

      pub group-out : group_of v sel l ≡ group_of u sel' l
      unfolding group_of
      group-out = mask_ext 8 _ _ in_out

      pub members : (m : ℕ) → m < 8 → has (group_of v sel l) m ≡ true → has A m ≡ false
      members m hm i = G l m hl hm s i ∙ a

    -- ---- marked or not, and with what
    module _ (w z : Working) (same : (l : ℕ) → l < 8 → has A l ≡ false → stage_at w l ≡ stage_at z l) where
      busy_out : (g : ℕ) → ((m : ℕ) → m < 8 → has g m ≡ true → has A m ≡ false) → any_in_progress w (has g) ≡ any_in_progress z (has g)
      unfolding any_in_progress both
      busy_out g out = any_ext 8 _ _ (λ m hm. split (has g m) (λ i. rw (i, both, same m hm (out m hm i))) (λ i. rw (i, both)))

      pub marks-out : (l : ℕ) → l < 8 → has A l ≡ false → is_marked v w sel l ≡ is_marked u z sel' l
      unfolding is_marked both
      marks-out l hl a = split (has sel l)
          (λ s. rw (s, sym (chosen l hl a) ∙ s, both) (rw (busy_out (group_of v sel l) (members l hl a s), group-out l hl a s)))
          (λ s. rw (s, sym (chosen l hl a) ∙ s, both))

      marked-out : (t : Trigger) (set : StagedSet) (l : ℕ) → l < 8 → has A l ≡ false → has sel l ≡ true → has (group_of v sel l) l ≡ true
          → marked_stage t set v sel l ≡ marked_stage t set u sel' l
      unfolding marked_stage
      marked-out t set l hl a s own =
          rw (verdict-out (group_of v sel l) (members l hl a s) l hl own t, S.staged l hl a, group-out l hl a s)

      pub stage-out : (t : Trigger) (set : StagedSet) (l : ℕ) → l < 8 → has A l ≡ false → (is_marked v w sel l ≡ true → has (group_of v sel l) l ≡ true)
          → stage_after t set v w sel l ≡ stage_after t set u z sel' l
      unfolding stage_after is_marked
      stage-out t set l hl a own = split (is_marked v w sel l)
          (λ k. pick_true _ _ k ∙ marked-out t set l hl a (both_l _ _ k) (own k) ∙ sym (pick_true _ _ (sym (marks-out l hl a) ∙ k)))
          (λ k. pick-false _ _ k ∙ same l hl a ∙ sym (pick-false _ _ (sym (marks-out l hl a) ∙ k)))
