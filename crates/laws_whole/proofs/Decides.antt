-- A trigger decides the same for two views that differ in the active settings of lanes of passing groups alone. Assumes nothing.
use Rattle.std.proofs.Common.{None, Some, Option}
use mathlib.Core.Path.{◌≡◌, refl, sym, ◌∙◌}
use mathlib.Core.Bool.{Bool, true, false}
use mathlib.Core.List.{List}
use Prim.Native.Nat.{ℕ, ◌<◌}
use native.Mathlib.Omega.{arith}
use borrow.Author.Tests.{not-true}
use Rattle.bits.specs.Choice.{both}
use Rattle.bits.specs.Sets.{has, first_in, some_in}
use Rattle.bits.proofs.Tests.{split, clash, both_l, both_r, both_i, pick_true, pick-false}
use Rattle.bits.proofs.Loops.{any_ext, any_none}
use Rattle.bits.proofs.Masks.{mask_ext, first_in_lem}
use Rattle.model.specs.Records.{stage_at, is_in_progress, is_passing, any_in_progress}
use Rattle.model.specs.View.{View, of, same_path, path_of}
use Rattle.model.specs.Groups.{released_with, in_group, group_of}
use Rattle.model.specs.Verdicts.{other_app_sel, crossing, too_late, wrong_state, unsupported, apply_by, apply_verdict, path_release, release_verdict, verdict_of}
use Rattle.model.specs.Triggers.{is_marked, marked_stage, stage_after}
use Rattle.model.specs.declared.lane.Settings.{Settings}
use Rattle.model.specs.declared.lane.Trigger.{Trigger}
use Rattle.model.specs.declared.lane.StagedSet.{StagedSet}
use Rattle.model.specs.declared.lane.Trigger.TheVariants.{DpInit, Immediate}
use Rattle.model.specs.declared.lane.Working.{Working}
use Rattle.model.specs.declared.application.Descriptor.{Descriptor}
use Rattle.laws_whole.proofs.Sees.{swap}
use Rattle.laws_sound.proofs.Stranger.{idle_passing}
use Rattle.laws_sound.proofs.Groups.{group_self}

-- ---- a lane in progress is never marked

-- a marked lane's group has no lane in progress
pub marked_free : (v : View) (w : Working) (selected l m : ℕ) → is_marked v w selected l ≡ true → m < 8 → has (group_of v selected l) m ≡ true → is_in_progress (stage_at w m) ≡ false
unfolding is_marked any_in_progress
marked_free v w selected l m e b i = split (is_in_progress (stage_at w m))
    (λ p. absurd (clash (both_i i p) (any_none 8 _ (not-true _ (both_r _ _ e)) m b))) (λ p. p)

pub marked-own : (v : View) (w : Working) (selected l : ℕ) → l < 8 → is_marked v w selected l ≡ true → has (group_of v selected l) l ≡ true
unfolding is_marked
marked-own v w selected l b e = group_self v selected l b (both_l _ _ e)

pub busy_unmarked : (v : View) (w : Working) (selected l : ℕ) → l < 8 → is_in_progress (stage_at w l) ≡ true → is_marked v w selected l ≡ false
busy_unmarked v w selected l b p = split (is_marked v w selected l)
    (λ e. absurd (clash p (marked_free v w selected l l e b (marked-own v w selected l b e)))) (λ e. e)

-- ---- two views
module _ (v : View) (late : List Settings) (w : Working) (selected : ℕ)
    (same : (l : ℕ) → l < 8 → is_passing (stage_at w l) ≡ false → of v.active l ≡ of late l)
    (paths : (l m : ℕ) → l < 8 → m < 8 → is_passing (stage_at w l) ≡ false → same_path v.active l m ≡ same_path late l m) where
  group-same : (l : ℕ) → l < 8 → is_passing (stage_at w l) ≡ false → group_of v selected l ≡ group_of (swap v late) selected l
  unfolding group_of in_group released_with
  group-same l b f = mask_ext 8 _ _ (λ m bm. rw (paths l m b bm f))

  pub marked-same : (l : ℕ) → l < 8 → is_marked v w selected l ≡ is_marked (swap v late) w selected l
  unfolding is_marked
  marked-same l b = split (is_in_progress (stage_at w l))
      (λ p. busy_unmarked v w selected l b p ∙ sym (busy_unmarked (swap v late) w selected l b p))
      (λ p. rw (group-same l b (idle_passing (stage_at w l) p)))

  -- a group with no lane in progress
  module _ (g : ℕ) (free : (m : ℕ) → m < 8 → has g m ≡ true → is_passing (stage_at w m) ≡ false) where
    some_same : (p q : ℕ → Bool) → ((m : ℕ) → m < 8 → is_passing (stage_at w m) ≡ false → p m ≡ q m) → some_in g p ≡ some_in g q
    unfolding some_in both
    some_same p q h = any_ext 8 _ _ (λ m b. split (has g m) (λ i. rw (i, both) (h m b (free m b i))) (λ i. rw (i, both)))

    crossing-same : crossing v.active g ≡ crossing late g
    unfolding crossing path_of
    crossing-same = some_same _ _ (λ m b f. rw (same m b f, mask_ext 8 _ _ (λ k bk. paths m k b bk f)))

    other_same : (a : ℕ) → other_app_sel v.active g a ≡ other_app_sel late g a
    unfolding other_app_sel
    other_same a = some_same _ _ (λ m b f. rw (same m b f))

    too_late-same : (t : Trigger) (a : ℕ) → too_late t v g a ≡ too_late t (swap v late) g a
    unfolding too_late
    too_late-same DpInit a = refl
    too_late-same Immediate a = rw (other_same a)

    apply-same : (d : Option Descriptor) (t : Trigger) (f a : ℕ) → apply_by d t v g f a ≡ apply_by d t (swap v late) g f a
    unfolding apply_by wrong_state unsupported
    apply-same None t f a = refl
    apply-same (Some d) t f a = rw (crossing-same, too_late-same t a)

    release-same : first_in g < 8 → has g (first_in g) ≡ true → release_verdict v g ≡ release_verdict (swap v late) g
    unfolding release_verdict path_release path_of
    release-same b i = let f : is_passing (stage_at w (first_in g)) ≡ false = free (first_in g) b i in
        rw (same (first_in g) b f, mask_ext 8 _ _ (λ k bk. paths (first_in g) k b bk f))

    pub verdict-same : (t : Trigger) (l : ℕ) → l < 8 → has g l ≡ true → verdict_of t v g ≡ verdict_of t (swap v late) g
    unfolding verdict_of apply_verdict
    verdict-same t l b i = let r = first_in_lem 8 g 0 l (omega arith) b i in
        rw (release-same r.0 r.1, apply-same _ t _ _)

  pub stage-same : (t : Trigger) (set : StagedSet) (l : ℕ) → l < 8 → stage_after t set v w selected l ≡ stage_after t set (swap v late) w selected l
  unfolding stage_after marked_stage
  stage-same t set l b = split (is_marked v w selected l)
      (λ e. pick_true _ _ e ∙ marked-alike e ∙ sym (pick_true _ _ (sym (marked-same l b) ∙ e)))
      (λ e. pick-false _ _ e ∙ sym (pick-false _ _ (sym (marked-same l b) ∙ e)))
    where
      free : is_marked v w selected l ≡ true → (m : ℕ) → m < 8 → has (group_of v selected l) m ≡ true → is_passing (stage_at w m) ≡ false
      free e m bm i = idle_passing (stage_at w m) (marked_free v w selected l m e bm i)

      marked-alike : is_marked v w selected l ≡ true → marked_stage t set v selected l ≡ marked_stage t set (swap v late) selected l
      marked-alike e = let i : has (group_of v selected l) l ≡ true = marked-own v w selected l b e in
          rw (← (group-same l b (free e l b i))) (rw (verdict-same (group_of v selected l) (free e) t l b i))
