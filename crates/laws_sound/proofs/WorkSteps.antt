-- A work step keeps the invariant: it copies a lane or closes a group. Assumes nothing.
use Rattle.std.proofs.Common.{None, Some, Option}
use mathlib.Core.Path.{◌≡◌, refl, sym, ◌∙◌}
use mathlib.Core.Bool.{Bool, true, false}
use mathlib.Core.Logic.{inl, ◌≢◌}
use Prim.Native.Nat.{ℕ, ◌+◌, suc, ◌≤◌, ◌<◌}
use native.Mathlib.Omega.{arith}
use lib.Dec.{ltb}
use lib.ListN.{length}
use borrow.Author.Tests.{ltb-true, ltb-false}
use Rattle.bits.specs.Place.{get}
use Rattle.bits.specs.Sets.{has, next_in}
use Rattle.bits.proofs.Tests.{split, pick_true, pick-false}
use Rattle.bits.proofs.Loops.{tab_at}
use Rattle.model.specs.Map.{Image, active_set, status_at, pending_at, image_length, pending_byte, status_bytes, set_length, state_bytes}
use Rattle.model.specs.Statuses.{in_progress, success}
use Rattle.model.specs.Records.{stage_at, held_in, freed_working, advanced_working, no_settings}
use Rattle.model.specs.View.{settings_at, settings_of, of, is_used}
use Rattle.model.specs.Verdicts.{deactivated}
use Rattle.model.specs.State.{State}
use Rattle.model.specs.Registers.{with_status}
use Rattle.model.specs.Work.{written_settings, copy_lane, early, copy_next, copy_group, is_release, pending_after, closed_state, closing_effect, copied_state, work_effect_by, work_effect_on, work_effect}
use Rattle.model.specs.declared.lane.Trigger.{Trigger}
use Rattle.model.specs.declared.lane.Trigger.TheVariants.{DpInit, Immediate}
use Rattle.model.specs.declared.lane.Verdict.{Verdict}
use Rattle.model.specs.declared.lane.Verdict.TheVariants.{Pass, Reject}
use Rattle.model.specs.declared.lane.Progress.{Progress}
use Rattle.laws_frames.proofs.Outside.{outside_refl, below_range, above_range}
use Rattle.laws_frames.proofs.Registers.{settings-same, states-same, advertised_below, applications-same, status-same, pending-same}
use Rattle.laws_frames.proofs.Changes.{status_outside, pending_outside, copy_outside}
use Rattle.laws_frames.proofs.Back.{status_in, status-out, pending_in, pending-out, active_in, active-out, written_fits}
use Rattle.laws_frames.proofs.Stages.{freed_in, freed_out, advanced_in, advanced_out}
use Rattle.laws_sound.specs.Sound.{Seen, seen_of, held, state_on, Mate, InWhole}
use Rattle.laws_frames.specs.Frames.{SameOutside, state_end, status_end, pending_end, Fits}
use Rattle.laws_sound.proofs.Test.{releases, all_unused}
use Rattle.laws_sound.proofs.Closing.{quiet-sound, closing, reject_whole, reject_rest, pass_whole, pass_rest}
use Rattle.laws_sound.proofs.Copying.{copying}
use Rattle.laws_sound.proofs.Quiet.{Well}

-- a lane of the settings of all lanes
pub settings-lane : (base : ℕ) (x : Image) (l : ℕ) → l < 8 → of (settings_of base x) l ≡ settings_at base x l
unfolding settings_of
settings-lane base x l b = tab_at 8 (settings_at base x) l no_settings b

held_fits : (s : Option Progress) (p : Progress) → s ≡ Some p → Fits p.held → Fits (held_in s)
unfolding held_in
held_fits s p e f = rw e f

-- ---- the pending bits of a group that closes

pending-range : (r : Bool) (t : Trigger) (g : ℕ) (x : Image) → SameOutside pending_byte pending_end x (pending_after r t g x)
unfolding pending_after
pending-range true t g x = pending_outside _ 0 x
pending-range false DpInit g x = pending_outside (has g) 1 x
pending-range false Immediate g x = outside_refl pending_byte pending_end x

pending-others : (r : Bool) (t : Trigger) (g l : ℕ) (x : Image) → length x ≡ image_length → l < 8 → has g l ≡ false
    → get (pending_after r t g x) (pending_at l) ≡ get x (pending_at l)
unfolding pending_after
pending-others true t g l x n bl i = pending-out x l n bl (has g) 0 i
pending-others false DpInit g l x n bl i = pending-out x l n bl (has g) 1 i
pending-others false Immediate g l x n bl i = refl

pending_cleared : (r : Bool) (t : Trigger) (g l : ℕ) (x : Image) → r ≡ true → length x ≡ image_length → l < 8 → has g l ≡ true
    → get (pending_after r t g x) (pending_at l) ≡ 0
unfolding pending_after
pending_cleared r t g l x q n bl i = rw (q, pending_after) (pending_in x l n bl (has g) 0 (omega arith) i)

module _ (two : ℕ) (s : State) (W : Well two s) (k : ℕ) (p : Progress) (b : k < 8) (e : stage_at s.working k ≡ Some p) where
  -- ---- closing, once the pending bits are written
  module _ (z : Image) (code : ℕ) (pends : SameOutside pending_byte pending_end s.image z) (low : code < in_progress)
      (others : (l : ℕ) → l < 8 → has p.group l ≡ false → get z (pending_at l) ≡ get s.image (pending_at l))
      (whole : (l : ℕ) → l < 8 → has p.group l ≡ true → is_used (of (settings_of active_set s.image) l) ≡ true → InWhole (seen_of s) l)
      (rest : (l : ℕ) → l < 8 → has p.group l ≡ true → is_used (of (settings_of active_set s.image) l) ≡ false
      → (state_on (seen_of s) l ≡ deactivated) × (get z (pending_at l) ≡ 0)) where
    abbrev y : Image
    y = with_status (has p.group) code z

    statuses : SameOutside status_bytes status_end z y
    statuses = status_outside (has p.group) code z

    size_z : length z ≡ image_length
    size_z = pends.size ∙ W.size

    pending_y : (l : ℕ) → l < 8 → get y (pending_at l) ≡ get z (pending_at l)
    pending_y l bl = pending-same z y l bl (above_range pending_byte pending_end (omega arith) statuses)

    closed_well : Well two (closed_state z s.working p.group code)
    unfolding closed_state
    closed_well = record {
      size = statuses.size ∙ size_z;
      low = statuses.byte 2 (inl (omega arith)) ∙ pends.byte 2 (inl (omega arith)) ∙ W.low;
      sound =
          rw (
            settings-same active_set z y (above_range active_set (active_set + set_length) (omega arith) statuses),
            settings-same active_set s.image z (below_range active_set (active_set + set_length) (omega arith) pends),
            states-same z y (below_range state_bytes state_end (omega arith) statuses),
            states-same s.image z (below_range state_bytes state_end (omega arith) pends),
            applications-same z y (advertised_below (omega arith) statuses),
            applications-same s.image z (advertised_below (omega arith) pends),
          )
          (closing (seen_of s) W.sound k p b e (stage_at (freed_working s.working p.group)) (λ l. get y (status_at l)) (λ l. get y (pending_at l)) code
          (λ l bl i. freed_in s.working p.group l bl i)
          (λ l bl i. freed_out s.working p.group l bl i)
          (λ l bl i. status_in z l size_z bl (has p.group) code (omega arith) i)
          (λ l bl i. status-out z l size_z bl (has p.group) code i ∙ status-same s.image z l bl (below_range status_bytes status_end (omega arith) pends))
          low
          (λ l bl i. pending_y l bl ∙ others l bl i)
          whole
          (λ l bl i u. let r = rest l bl i u in (r.0, pending_y l bl ∙ r.1)));
    }

  reject_well : (c : ℕ) → p.verdict ≡ Reject c → Well two (closed_state s.image s.working p.group c)
  reject_well c q =
      let r = (W.sound.grouped k p b e).code c q in
      closed_well s.image c (outside_refl pending_byte pending_end s.image) (omega arith) (λ l bl i. refl)
      (reject_whole (seen_of s) W.sound k p b e c q) (reject_rest (seen_of s) W.sound k p b e c q)

  -- ---- a pass closes
  pass_well : (n : ℕ) → p.verdict ≡ Pass n → 8 ≤ n → (t : Trigger) → Well two (closing_effect early s p.group t).state
  unfolding closing_effect copy_group
  pass_well n q h t =
      closed_well (pending_after (is_release s.working p.group) t p.group s.image) success
      (pending-range (is_release s.working p.group) t p.group s.image) (omega arith)
      (λ l bl i. pending-others (is_release s.working p.group) t p.group l s.image W.size bl i)
      (λ l bl i u. pass_whole (seen_of s) W.sound k n p b e q h l bl i u)
      (λ l bl i u. let r = pass_rest (seen_of s) W.sound k n p b e q h l bl i u in (
        r.1,
        pending_cleared (is_release s.working p.group) t p.group l s.image
            (releases s.image s.working l bl p.group n i
            (all_unused s.image s.working l bl p.group n i (W.sound.passes k n p b e q).purpose l bl i r.0))
            W.size bl i,
      ))

  -- ---- a lane is copied
  module _ (n : ℕ) (q : p.verdict ≡ Pass n) (h : n < 8) where
    n_mate : Mate p (stage_at s.working n)
    n_mate = (W.sound.grouped k p b e).mate n h (((W.sound.grouped k p b e).next n q).1 h)

    fits : Fits (written_settings (held_in (stage_at s.working n)))
    fits = written_fits _ (held_fits _ n_mate.its n_mate.stage (W.sound.grouped n n_mate.its h n_mate.stage).fits)

    abbrev copy : Image
    copy = copy_lane s.working n s.image

    changed : SameOutside active_set (active_set + set_length) s.image copy
    changed = copy_outside s.working n s.image h

    at_n : of (settings_of active_set copy) n ≡ written_settings (held (seen_of s) n)
    unfolding copy_lane
    at_n = settings-lane active_set copy n h ∙ active_in _ n s.image W.size h fits

    at_other : (l : ℕ) → l < 8 → l ≢ n → of (settings_of active_set copy) l ≡ of (settings_of active_set s.image) l
    unfolding copy_lane
    at_other l bl d = settings-lane active_set copy l bl ∙ active-out _ n l s.image h bl d ∙ sym (settings-lane active_set s.image l bl)

    copied_well : Well two (copied_state early s p.group n)
    unfolding copied_state copy_next
    copied_well = record {
      size = changed.size ∙ W.size;
      low = changed.byte 2 (inl (omega arith)) ∙ W.low;
      sound =
          rw (
            states-same s.image copy (below_range state_bytes state_end (omega arith) changed),
            applications-same s.image copy (advertised_below (omega arith) changed),
          )
          (quiet-sound after (λ l. get copy (status_at l)) (λ l. get copy (pending_at l))
          (λ l bl. status-same s.image copy l bl (below_range status_bytes status_end (omega arith) changed))
          (λ l bl. pending-same s.image copy l bl (above_range pending_byte pending_end (omega arith) changed))
          (copying (seen_of s) W.sound k n p b e q h after.stage after.active
          (λ l bl i. advanced_in s.working p.group _ l bl i) (λ l bl i. advanced_out s.working p.group _ l bl i) at_n at_other));
    }
      where
        after : Seen
        after = record {
          stage = stage_at (advanced_working s.working p.group (next_in 8 p.group (suc n)));
          active = settings_of active_set copy;
          states = (seen_of s).states;
          applications = (seen_of s).applications;
          status = (seen_of s).status;
          pending = (seen_of s).pending;
        }

  verdict_well : (u : Verdict) → p.verdict ≡ u → Well two (work_effect_by u early s p.group p.trigger).state
  unfolding work_effect_by
  verdict_well (Reject c) q = reject_well c q
  verdict_well (Pass n) q = split (ltb n 8)
      (λ h. rw (pick_true _ _ h) (copied_well n q (ltb-true n 8 h)))
      (λ h. rw (pick-false _ _ h) (pass_well n q (ltb-false n 8 h) p.trigger))

stage_well : (two : ℕ) (s : State) (l : ℕ) → Well two s → l < 8 → (t : Option Progress) → stage_at s.working l ≡ t → Well two (work_effect_on t early s).state
unfolding work_effect_on
stage_well two s l W b None e = W
stage_well two s l W b (Some p) e = verdict_well two s W l p b e p.verdict refl

pub work_well : (two : ℕ) (s : State) (l : ℕ) → Well two s → l < 8 → Well two (work_effect early s l).state
unfolding work_effect
work_well two s l W b = stage_well two s l W b (stage_at s.working l) refl
