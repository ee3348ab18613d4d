-- A work step on a group outside A in both runs, or on a group of A in one alone. Assumes nothing.
use mathlib.Core.Path.{◌≡◌, refl, sym, ap, ◌∙◌}
use mathlib.Core.Bool.{Bool, true, false, not}
use Prim.Native.Nat.{ℕ, suc, ◌<◌}
use native.Mathlib.Omega.{arith}
use lib.Dec.{ltb}
use borrow.Author.Tests.{ltb-true}
use Rattle.bits.specs.Choice.{pick, both}
use Rattle.bits.specs.Sets.{has, next_in, first_in, some_in}
use Rattle.bits.proofs.Tests.{split, clash}
use Rattle.bits.proofs.Loops.{each_two, each_ind, any_ext}
use Rattle.bits.proofs.Masks.{first_in_lem}
use Rattle.model.specs.Map.{Image, status_at, pending_at, active_set, setting_at}
use Rattle.model.specs.Records.{stage_at, with_stages, with_verdict, freed_working, advanced_working}
use Rattle.model.specs.Registers.{with_status, with_pending}
use Rattle.model.specs.State.{State}
use Rattle.model.specs.Work.{early, with_active, copy_lane, copy_next, copy_group, is_release, pending_after, commission_mask, closed_state, closing_effect, copied_state, work_effect_by}
use Rattle.model.specs.declared.lane.Trigger.{Trigger}
use Rattle.model.specs.declared.lane.Trigger.TheVariants.{DpInit, Immediate}
use Rattle.model.specs.declared.lane.Verdict.{Verdict}
use Rattle.model.specs.declared.lane.Verdict.TheVariants.{Pass, Reject}
use Rattle.laws_frames.proofs.Alike.{alike-put, alike-status, alike-after}
use Rattle.laws_frames.proofs.Stages.{freed_in, freed_out, advanced_in, advanced_out, on-kept}
use Rattle.laws_links.specs.Links.{unsaid}
use Rattle.laws_links.proofs.Seeing.{own-status, own-pending, own-active, Same, put-inside, puts_inside}
use Rattle.laws_links.proofs.Nearness.{Near, state-seen}

module _ (A : ℕ) (s t : State) (N : Near A s t) (g : ℕ) where
  -- ---- the records, whoever the group is

  freed_near : (l : ℕ) → l < 8 → has A l ≡ false → stage_at (freed_working s.working g) l ≡ stage_at (freed_working t.working g) l
  freed_near l h a = split (has g l)
      (λ i. freed_in s.working g l h i ∙ sym (freed_in t.working g l h i))
      (λ i. freed_out s.working g l h i ∙ N.stages l h a ∙ sym (freed_out t.working g l h i))

  advanced_near : (n l : ℕ) → l < 8 → has A l ≡ false → stage_at (advanced_working s.working g n) l ≡ stage_at (advanced_working t.working g n) l
  advanced_near n l h a = split (has g l)
      (λ i. advanced_in s.working g n l h i ∙ ap (λ z. with_verdict z (Pass n)) (N.stages l h a) ∙ sym (advanced_in t.working g n l h i))
      (λ i. advanced_out s.working g n l h i ∙ N.stages l h a ∙ sym (advanced_out t.working g n l h i))

  -- ---- in both runs, on a group outside A

  module _ (out : (m : ℕ) → m < 8 → has g m ≡ true → has A m ≡ false) where
    release-same : is_release s.working g ≡ is_release t.working g
    unfolding is_release some_in both
    release-same = ap not (any_ext 8 _ _ (λ m h. split (has g m) (λ i. rw (i, both, N.stages m h (out m h i))) (λ i. rw (i, both))))

    closed-both : (x y : Image) (code : ℕ) → Same A x y → Near A (closed_state x s.working g code) (closed_state y t.working g code)
    unfolding closed_state freed_working with_stages
    closed-both x y code K = record {
      image = alike-status (unsaid A) (has g) (has g) code x y (λ l h. refl) K;
      stages = freed_near;
      ons = λ l h a. on-kept s.working _ l h ∙ N.ons l h a ∙ sym (on-kept t.working _ l h);
      line = N.line;
    }

    copied-both : (n : ℕ) → n < 8 → has g n ≡ true → Near A (copied_state early s g n) (copied_state early t g n)
    unfolding copied_state copy_next copy_lane with_active advanced_working with_stages
    copied-both n h i = record {
      image = rw (N.stages n h (out n h i)) (each_two (Same A) (λ k. true) _ _ 8 (λ k x y b e K. alike-put (unsaid A) x y (setting_at active_set k n) _ K) s.image t.image N.image);
      stages = advanced_near (next_in 8 g (suc n));
      ons = λ l h a. on-kept s.working _ l h ∙ N.ons l h a ∙ sym (on-kept t.working _ l h);
      line = N.line;
    }

    -- .. what it leaves, and the lanes to be commissioned
    mask-same : (r : Bool) (k : Trigger) (l : ℕ) → l < 8 → has g l ≡ true → commission_mask r k s.image g ≡ commission_mask r k t.image g
    unfolding commission_mask
    mask-same true k l h i = refl
    mask-same false DpInit l h i = refl
    mask-same false Immediate l h i = let f = first_in_lem 8 g 0 l (omega arith) h i in
        rw (state-seen A s.image t.image N.image (first_in g) f.0 (out (first_in g) f.0 f.1))

    closing_both : (k : Trigger) (l : ℕ) → l < 8 → has g l ≡ true
        → Near A (closing_effect early s g k).state (closing_effect early t g k).state × ((closing_effect early s g k).mask ≡ (closing_effect early t g k).mask)
    unfolding closing_effect copy_group
    closing_both k l h i = rw release-same (
      closed-both _ _ _ (alike-after (unsaid A) (is_release t.working g) k g s.image t.image N.image),
      mask-same (is_release t.working g) k l h i,
    )

    pub work-both : (u : Verdict) (k : Trigger) (l : ℕ) → l < 8 → has g l ≡ true → ((n : ℕ) → u ≡ Pass n → n < 8 → has g n ≡ true)
        → Near A (work_effect_by u early s g k).state (work_effect_by u early t g k).state × ((work_effect_by u early s g k).mask ≡ (work_effect_by u early t g k).mask)
        × ((work_effect_by u early s g k).bytes ≡ (work_effect_by u early t g k).bytes)
    unfolding work_effect_by pick closing_effect
    work-both (Reject code) k l h i next = (closed-both s.image t.image code N.image, refl, refl)
    work-both (Pass n) k l h i next = split (ltb n 8)
        (λ b. let m : n < 8 = ltb-true n 8 b in rw (b, pick) (copied-both n m (next n refl m), refl, refl))
        (λ b. let c = closing_both k l h i in rw (b, pick) (c.0, c.1, refl))

  -- ---- in one run alone, on a group of A

  module _ (own : (m : ℕ) → m < 8 → has g m ≡ true → has A m ≡ true) where
    stranger : (l : ℕ) → l < 8 → has A l ≡ false → has g l ≡ false
    stranger l h a = split (has g l) (λ i. absurd (clash (own l h i) a)) (λ i. i)

    closed_alone : (x : Image) (code : ℕ) → Same A x t.image → Near A (closed_state x s.working g code) t
    unfolding closed_state freed_working with_stages with_status
    closed_alone x code K = record {
      image = puts_inside A status_at code own-status (has g) own x t.image K;
      stages = λ l h a. freed_out s.working g l h (stranger l h a) ∙ N.stages l h a;
      ons = λ l h a. on-kept s.working _ l h ∙ N.ons l h a;
      line = N.line;
    }

    copied_alone : (n : ℕ) → n < 8 → has g n ≡ true → Near A (copied_state early s g n) t
    unfolding copied_state copy_next copy_lane with_active advanced_working with_stages
    copied_alone n h i = record {
      image = each_ind (λ k. true) _ (λ x. Same A x t.image) 8 (λ k x b e K. put-inside A x t.image (setting_at active_set k n) _ n h (own n h i) (own-active k n b h) K) s.image N.image;
      stages = λ l h a. advanced_out s.working g _ l h (stranger l h a) ∙ N.stages l h a;
      ons = λ l h a. on-kept s.working _ l h ∙ N.ons l h a;
      line = N.line;
    }

    pending_alone : (r : Bool) (k : Trigger) → Same A (pending_after r k g s.image) t.image
    unfolding pending_after with_pending
    pending_alone true k = puts_inside A pending_at 0 own-pending (has g) own s.image t.image N.image
    pending_alone false DpInit = puts_inside A pending_at 1 own-pending (has g) own s.image t.image N.image
    pending_alone false Immediate = N.image

    pub work_alone : (u : Verdict) (k : Trigger) → ((n : ℕ) → u ≡ Pass n → n < 8 → has g n ≡ true) → Near A (work_effect_by u early s g k).state t
    unfolding work_effect_by pick closing_effect copy_group
    work_alone (Reject code) k next = closed_alone s.image code N.image
    work_alone (Pass n) k next = split (ltb n 8)
        (λ b. let m : n < 8 = ltb-true n 8 b in rw (b, pick) (copied_alone n m (next n refl m)))
        (λ b. rw (b, pick) (closed_alone _ _ (pending_alone (is_release s.working g) k)))
