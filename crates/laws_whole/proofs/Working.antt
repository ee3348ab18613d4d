-- A work step in both runs: a rejection closes, a lane is copied or waits, a pass closes.
use Rattle.std.proofs.Common.{None, Some, Option}
use mathlib.Core.Path.{◌≡◌, refl, sym, ◌∙◌}
use mathlib.Core.Bool.{Bool, true, false}
use mathlib.Core.List.{[]}
use Prim.Native.Nat.{ℕ, ◌≤◌, ◌<◌}
use native.Mathlib.Omega.{arith}
use lib.Dec.{ltb}
use borrow.Author.Tests.{ltb-true, ltb-false}
use Rattle.bits.specs.Choice.{pick}
use Rattle.bits.specs.Sets.{has, first_in}
use Rattle.bits.proofs.Tests.{split, clash}
use Rattle.bits.proofs.Places.{digit_ext}
use Rattle.bits.proofs.Masks.{first_in_lem}
use Rattle.model.specs.Map.{Image, active_set, setting_at}
use Rattle.model.specs.Statuses.{success}
use Rattle.model.specs.Records.{stage_at, is_pass, is_passing, held_in, progress_with, with_verdict, freed_working, advanced_working}
use Rattle.model.specs.View.{of, settings_at}
use Rattle.model.specs.State.{State, state_with}
use Rattle.model.specs.Effect.{Effect, on_state}
use Rattle.model.specs.Work.{early, late, copy_next, copy_group, is_release, commission_mask, closed_state, closing_effect, copied_state, work_effect_by, work_effect_on, work_effect}
use Rattle.model.specs.declared.lane.Trigger.{Trigger}
use Rattle.model.specs.declared.lane.Trigger.TheVariants.{DpInit, Immediate}
use Rattle.model.specs.declared.lane.Verdict.{Verdict}
use Rattle.model.specs.declared.lane.Verdict.TheVariants.{Pass, Reject}
use Rattle.model.specs.declared.lane.Progress.{Progress}
use Rattle.model.specs.declared.lane.Working.{Working}
use Rattle.laws_frames.proofs.Registers.{advertised_below, applications-same}
use Rattle.laws_frames.proofs.Changes.{copy_outside}
use Rattle.laws_frames.proofs.Stages.{freed_in, freed_out, advanced_in, advanced_out}
use Rattle.laws_sound.specs.Sound.{seen_of, Sound}
use Rattle.laws_sound.proofs.Stranger.{not-idle, is_passing_lem, is_rejected}
use Rattle.laws_whole.specs.Whole.{active_bit_of}
use Rattle.laws_frames.specs.Frames.{Fits}
use Rattle.laws_whole.proofs.Area.{active-place}
use Rattle.laws_whole.proofs.Agree.{alike-lanes, of_none, none_of, of_find}
use Rattle.laws_whole.proofs.Sees.{active_of, active_at}
use Rattle.laws_whole.proofs.Pairs.{passed, veiled, Waits, Pair, Paired}
use Rattle.laws_whole.proofs.Kept.{keeps_trans, keeps_status, keeps_after, waits_keeps}
use Rattle.laws_whole.proofs.Changes.{state-read}
use Rattle.laws_whole.proofs.Copies.{copy_bit, group-bit, group_outside, group_in, group-out, setting-read}
use Rattle.laws_frames.proofs.Alike.{alike-after, alike_refl, alike-status}
use Rattle.laws_frames.specs.Alike.{Alike}

-- what an event leaves in the two runs: paired states, one mask, and bytes alike but for the excepted bits
pub record Carries (except : ℕ → ℕ → Bool) (c d : Effect) : Type 0 where
  pub states : Paired c.state d.state
  pub mask : c.mask ≡ d.mask
  pub bytes : Alike except c.bytes d.bytes

pub leaves_pair : (except : ℕ → ℕ → Bool) {c d : State} → Paired c d → Carries except (on_state c) (on_state d)
leaves_pair except P = record { states = P; mask = refl; bytes = alike_refl except [] }

-- ---- lanes that go idle
module _ (w : Working) (g : ℕ) where
  still : (l : ℕ) (p : Progress) → l < 8 → stage_at (freed_working w g) l ≡ Some p → (stage_at w l ≡ Some p) × (has g l ≡ false)
  still l p b e = split (has g l)
      (λ i. absurd (not-idle (freed_in w g l b i) e))
      (λ i. (sym (freed_out w g l b i) ∙ e, i))

  freed_waits : (y : Image) → Waits y w → Waits y (freed_working w g)
  freed_waits y W l n p b e q = W l n p b (still l p b e).0 q

  -- only lanes of the group stop passing
  freed_passing : (m : ℕ) → m < 8 → has g m ≡ false → is_passing (stage_at w m) ≡ true → is_passing (stage_at (freed_working w g) m) ≡ true
  freed_passing m b i p = rw (freed_out w g m b i) p

module _ (x y : Image) (w : Working) (S : Sound (seen_of (state_with x w))) (P : Pair x y w)
    (l : ℕ) (p : Progress) (b : l < 8) (e : stage_at w l ≡ Some p) where
  -- ---- a rejection closes
  rejected-not : (code m : ℕ) → p.verdict ≡ Reject code → m < 8 → is_passing (stage_at w m) ≡ true → has p.group m ≡ false
  rejected-not code m v bm f = split (has p.group m)
      (λ i. let t = (S.grouped l p b e).mate m bm i in absurd (clash f (is_rejected t.stage (t.verdict ∙ v))))
      (λ i. i)

  reject_pair : (code : ℕ) → p.verdict ≡ Reject code → Paired (closed_state x w p.group code) (closed_state y w p.group code)
  unfolding closed_state
  reject_pair code v = record {
    working = refl;
    pair = record {
      size = (keeps_status _ _ x).size ∙ P.size;
      alike = alike-lanes (passed w) _ _ _ (λ m bm f. freed_passing w p.group m bm (rejected-not code m v bm f) f)
          (alike-status (veiled w) _ _ code x y (λ m bm. refl) P.alike);
      waits = waits_keeps y _ (freed_working w p.group) (keeps_status _ _ y) (freed_waits w p.group y P.waits);
    };
  }

  module _ (n : ℕ) (v : p.verdict ≡ Pass n) where
    -- ---- a lane is copied in the run, and waits in the comparison run
    copied_passing : (k m : ℕ) → m < 8 → is_passing (stage_at w m) ≡ true → is_passing (stage_at (advanced_working w p.group k) m) ≡ true
    unfolding with_verdict is_passing is_pass
    copied_passing k m bm f = split (has p.group m)
        (λ i. rw (advanced_in w p.group k m bm i, ((S.grouped l p b e).mate m bm i).stage))
        (λ i. rw (advanced_out w p.group k m bm i) f)

    copied_waits : (k : ℕ) → Waits y (advanced_working w p.group k)
    unfolding with_verdict
    copied_waits k m j q bm f u = split (has p.group m)
        (λ i. let t = (S.grouped l p b e).mate m bm i in
        let r : Some (progress_with t.its (Pass k)) ≡ Some q =
        sym (advanced_in w p.group k m bm i ∙ rw t.stage) ∙ f in
        let a : t.its.group ≡ q.group = cc in
        rw (← a) (P.waits m n t.its bm t.stage (t.verdict ∙ v)))
        (λ i. P.waits m j q bm (sym (advanced_out w p.group k m bm i) ∙ f) u)

    copied-pair : n < 8 → Paired (copied_state early (state_with x w) p.group n) (copied_state late (state_with y w) p.group n)
    unfolding copied_state copy_next
    copied-pair h = record {
      working = refl;
      pair = record {
        size = (copy_outside w n x h).size ∙ P.size;
        alike = alike-lanes (passed w) _ _ _ (copied_passing _) (record {
          size = (copy_outside w n x h).size ∙ P.alike.size;
          bits = λ i d hd. copy_bit w n x i d (none_of (passed w) n i d h hd next-passes) ∙ P.alike.bits i d hd;
        });
        waits = copied_waits _;
      };
    }
      where
        next-passes : is_passing (stage_at w n) ≡ true
        next-passes = let t = (S.grouped l p b e).mate n h (((S.grouped l p b e).next n v).1 h) in is_passing_lem t.stage (t.verdict ∙ v)

    -- ---- a pass closes: the run has copied every lane, the comparison run does it now
    module _ (h : 8 ≤ n) where
      own-settings : (m : ℕ) → m < 8 → has p.group m ≡ true → settings_at active_set x m ≡ settings_at active_set (copy_group late w p.group y) m
      unfolding held_in
      own-settings m bm i =
          let t = (S.grouped l p b e).mate m bm i in
          let f : Fits (held_in (stage_at w m)) = rw (t.stage, held_in) (S.grouped m t.its bm t.stage).fits in
          sym (active_at x m bm) ∙ (S.passes l n p b e v).copied m bm i (omega arith)
          ∙ sym (group_in w p.group y m bm i (sym P.alike.size ∙ P.size) f)

      met : Alike (veiled (freed_working w p.group)) x (copy_group late w p.group y)
      met = record {
        size = P.alike.size ∙ sym (group_outside w p.group y).size;
        bits = λ i d hd. split (active_bit_of (has p.group) i d)
            (λ o. let r = of_find (has p.group) i d o in let q = active-place r.0 i d r.3 in
            digit_ext x (copy_group late w p.group y) (setting_at active_set q.0 r.0) i d
            (setting-read x (copy_group late w p.group y) r.0 q.0 q.1 (own-settings r.0 r.1 r.2)) q.2)
            (λ o. P.alike.bits i d (of_none (passed w) i d (λ m bm f. split (has p.group m)
            (λ im. none_of (has p.group) m i d bm o im)
            (λ im. none_of (passed (freed_working w p.group)) m i d bm hd (freed_passing w p.group m bm im f))))
            ∙ sym (group-bit w p.group y i d (λ m bm im. none_of (has p.group) m i d bm o im)));
      }

      closed_waits : Waits (copy_group late w p.group y) (freed_working w p.group)
      closed_waits m k q bm f u =
          let s = still w p.group m q bm f in
          let z = copy_group late w p.group y in
          let a : of (active_of z) m ≡ of (active_of y) m = active_at z m bm ∙ group-out w p.group y m bm s.1 ∙ sym (active_at y m bm) in
          rw (a, applications-same y z (advertised_below (omega arith) (group_outside w p.group y))) (P.waits m k q bm s.0 u)

      first_below : first_in p.group < 8
      first_below = (first_in_lem 8 p.group 0 l (omega arith) b (S.grouped l p b e).own).0

      mask-same : (r : Bool) (t : Trigger) → commission_mask r t x p.group ≡ commission_mask r t y p.group
      unfolding commission_mask
      mask-same true t = refl
      mask-same false DpInit = refl
      mask-same false Immediate = rw (state-read (passed w) x y P.alike (first_in p.group) first_below)

      closed_carries : (except : ℕ → ℕ → Bool) (t : Trigger) → Carries except (closing_effect early (state_with x w) p.group t) (closing_effect late (state_with y w) p.group t)
      unfolding closing_effect closed_state copy_group
      closed_carries except t = record {
        states = record {
          working = refl;
          pair = record {
            size = (keeps_status _ _ _).size ∙ (keeps_after (is_release w p.group) t p.group x).size ∙ P.size;
            alike = alike-status (veiled (freed_working w p.group)) _ _ success _ _ (λ m bm. refl)
                (alike-after (veiled (freed_working w p.group)) (is_release w p.group) t p.group x _ met);
            waits = waits_keeps _ _ (freed_working w p.group) (keeps_trans (keeps_after (is_release w p.group) t p.group _) (keeps_status _ _ _)) closed_waits;
          };
        };
        mask = mask-same (is_release w p.group) t;
        bytes = alike_refl except [];
      }

  worked_by : (except : ℕ → ℕ → Bool) (t : Trigger) (v : Verdict) → p.verdict ≡ v
      → Carries except (work_effect_by v early (state_with x w) p.group t) (work_effect_by v late (state_with y w) p.group t)
  unfolding work_effect_by pick
  worked_by except t (Reject code) v = leaves_pair except (reject_pair code v)
  worked_by except t (Pass n) v = split (ltb n 8)
      (λ h. rw (h, pick) (leaves_pair except (copied-pair n v (ltb-true n 8 h))))
      (λ h. rw (h, pick) (closed_carries n v (ltb-false n 8 h) except t))

module _ (x y : Image) (w : Working) (S : Sound (seen_of (state_with x w))) (P : Pair x y w) (except : ℕ → ℕ → Bool) (l : ℕ) (b : l < 8) where
  worked-on : (s : Option Progress) → stage_at w l ≡ s → Carries except (work_effect_on s early (state_with x w)) (work_effect_on s late (state_with y w))
  unfolding work_effect_on
  worked-on None e = leaves_pair except (record { working = refl; pair = P })
  worked-on (Some p) e = worked_by x y w S P l p b e except p.trigger p.verdict refl

  pub work_carries : Carries except (work_effect early (state_with x w) l) (work_effect late (state_with y w) l)
  unfolding work_effect
  work_carries = worked-on (stage_at w l) refl
