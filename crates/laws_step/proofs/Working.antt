-- A work step on a lane in progress: a rejection closes in one step, and a pass copies one lane a step, ascending, and then closes. Assumes nothing.
use Rattle.std.proofs.Common.{Some}
use mathlib.Core.Path.{◌≡◌, refl, ap, ◌∙◌}
use mathlib.Core.Bool.{Bool, true, false}
use mathlib.Core.List.{List, [], ◌∷◌}
use Prim.Native.Nat.{ℕ, suc, ◌+◌, ◌^◌, ◌≤◌, ◌<◌}
use native.Mathlib.Nat.{mod-eq_of_lt}
use native.Mathlib.Omega.{arith}
use lib.ListN.{length, get_or}
use borrow.Author.Tests.{lt-ltb, le-ltb}
use Rattle.bits.specs.Choice.{pick, both, either}
use Rattle.bits.specs.Lane.{lane_field, all_apart}
use Rattle.bits.specs.Loop.{tab, any_of, all_below}
use Rattle.bits.specs.Place.{get, apart}
use Rattle.bits.specs.Sets.{has, next_in}
use Rattle.bits.proofs.Loops.{any_one, get_puts}
use Rattle.bits.proofs.Lanes.{table_apart}
use Rattle.bits.proofs.Masks.{next_le, next_bound}
use Rattle.model.specs.Map.{Image, active_set, setting_at, setting_offsets, setting_widths, status_at, pending_at, page11, on, Range, range_on, in_ranges, image_length}
use Rattle.model.specs.Statuses.{success}
use Rattle.model.specs.Records.{stage_at, held_in}
use Rattle.model.specs.View.{settings_at, setting_values}
use Rattle.model.specs.State.{State, with_image}
use Rattle.model.specs.Registers.{with_status, with_pending}
use Rattle.model.specs.Work.{early, written_settings, with_active, copy_lane, copy_next, copy_group, is_release, pending_after, closed_state, closing_effect, copied_state, work_effect_by}
use Rattle.model.specs.Flags.{settled_image}
use Rattle.model.specs.Sound.{is_sound}
use Rattle.model.specs.Step.{done_step}
use Rattle.model.specs.declared.lane.Settings.{Settings}
use Rattle.model.specs.declared.lane.Trigger.{Trigger}
use Rattle.model.specs.declared.lane.Trigger.TheVariants.{DpInit, Immediate}
use Rattle.model.specs.declared.lane.Verdict.TheVariants.{Pass, Reject}
use Rattle.model.specs.declared.lane.Progress.{Progress}
use Rattle.laws_frames.proofs.Ranges.{covered_by}
use Rattle.laws_step.specs.Changes.{ChangesOnly, or_in, interrupt_set, status_set, pending_set, active_of}
use Rattle.laws_step.specs.Told.{Settled, worked, Closed, CopiedLane, pending_then}
use Rattle.laws_step.proofs.Frames.{unless, keeps_refl, keeps_put, keeps_then, keeps_left, keeps_right, keeps_each, keeps_lanes, keeps_lane, lanes_written, lanes_bytes}
use Rattle.laws_step.proofs.Within.{Within, within-lanes}
use Rattle.laws_step.proofs.Settling.{spares_flags, spares_interrupt, settled_changes, settled_stays, settled_lane, settled_setting}
use Rattle.laws_step.proofs.Stepped.{work_done}
use Rattle.laws_step.proofs.Places.{in_image}
use Rattle.laws_step.proofs.Triggering.{status_changes}
use Rattle.laws_frames.proofs.Stages.{freed_in, freed_out, advanced_in, advanced_out}
use Rattle.laws_step.proofs.Held.{code_fits, next_fits, written_fits}

-- ---- what the parts of a step change

-- ConfigStatus has four bytes, with no flag, no mask and not lower 3.0
status_range : List Range
status_range = range_on page11 202 205 ∷ []

status-within : (c : ℕ → Bool) → Within status_range (status_set c)
unfolding status_range status_set covered_by both either
status-within c = within-lanes status_range c (on page11 202) 4 refl refl

status_spares : spares_interrupt status_range ≡ true
unfolding status_range spares_interrupt spares_flags any_of tab in_ranges both either
status_spares = refl

pub pending_changes : (c : ℕ → Bool) (v : ℕ) (x : Image) → ChangesOnly (pending_set c) x (with_pending c v x)
unfolding with_pending pending_set
pending_changes c v x = keeps_lanes c (on page11 235) 1 (λ l. v) x

active_changes : (h : Settings) (l : ℕ) (x : Image) → ChangesOnly (active_of l) x (with_active h l x)
unfolding with_active active_of
active_changes h l x = keeps_each _ _ _ 8 x (λ k y b e. keeps_put _ y (setting_at active_set k l) _ (λ i j c. any_one 8 _ k b c))

-- a group's status reads back
status_written : (c : ℕ → Bool) (code : ℕ) (x : Image) (m : ℕ) → length x ≡ image_length → code < 16 → m < 8 → c m ≡ true → get (with_status c code x) (status_at m) ≡ code
unfolding with_status
status_written c code x m size f h e = lanes_written c (on page11 202) 4 code x m (omega arith) refl f h e

-- .. and so does DPInitPending
pub pending_written : (c : ℕ → Bool) (v : ℕ) (x : Image) (m : ℕ) → length x ≡ image_length → v < 2 → m < 8 → c m ≡ true → get (with_pending c v x) (pending_at m) ≡ v
unfolding with_pending
pending_written c v x m size f h e = lanes_written c (on page11 235) 1 v x m (omega arith) refl f h e

module _ (g : ℕ) (x : Image) where
  -- cleared by a release, set by ApplyDPInit, left by ApplyImmediate; no other bit
  pending-then : (r : Bool) (t : Trigger) (m : ℕ) → length x ≡ image_length → m < 8 → has g m ≡ true
      → get (pending_after r t g x) (pending_at m) ≡ pending_then r t (get x (pending_at m))
  unfolding pending_after pending_then
  pending-then true t m size h e = pending_written (has g) 0 x m size (omega arith) h e
  pending-then false DpInit m size h e = pending_written (has g) 1 x m size (omega arith) h e
  pending-then false Immediate m size h e = refl

  pending-after : (r : Bool) (t : Trigger) → ChangesOnly (pending_set (has g)) x (pending_after r t g x)
  unfolding pending_after
  pending-after true t = pending_changes (has g) 0 x
  pending-after false DpInit = pending_changes (has g) 1 x
  pending-after false Immediate = keeps_refl _ x

-- no two settings of a lane share a bit
settings-apart : all_apart 8 (λ k. active_set + get_or setting_offsets k 0) (λ k. get_or setting_widths k 0) ≡ true
unfolding all_apart all_below apart lane_field both either
settings-apart = refl

-- so a copied lane's settings read back
active_written : (h : Settings) (l : ℕ) (x : Image) (k : ℕ) → length x ≡ image_length → l < 8 → k < 8 → get_or (setting_values h) k 0 < 2 ^ get_or setting_widths k 0
    → get (with_active h l x) (setting_at active_set k l) ≡ get_or (setting_values h) k 0
unfolding with_active setting_at lane_field pick
active_written h l x k size b c f =
    get_puts (λ j. true) (λ j. setting_at active_set j l) (λ j. get_or (setting_values h) j 0) 8 k x c (in_image x k l size b c)
    (λ j d n. table_apart 8 _ _ j l k l settings-apart d b c b (λ e q. n e))
    ∙ mod-eq_of_lt f

settings-read : (h : Settings) (l : ℕ) (x : Image) → length x ≡ image_length → l < 8 → ((k : ℕ) → k < 8 → get_or (setting_values h) k 0 < 2 ^ get_or setting_widths k 0)
    → settings_at active_set (settled_image (with_active h l x)) l ≡ h
unfolding settings_at setting_values
settings-read h l x size b f =
    rw (
      at 0 (omega arith),
      at 1 (omega arith),
      at 2 (omega arith),
      at 3 (omega arith),
      at 4 (omega arith),
      at 5 (omega arith),
      at 6 (omega arith),
      at 7 (omega arith),
    )
  where
    at : (k : ℕ) → k < 8 → get (settled_image (with_active h l x)) (setting_at active_set k l) ≡ get_or (setting_values h) k 0
    at k c = settled_setting (with_active h l x) k l ∙ active_written h l x k size b c (f k c)

-- ---- the step

module _ (room : ℕ) (s : State) (bytes : List ℕ) (l : ℕ) (p : Progress) (h : l < 8) (i : stage_at s.working l ≡ Some p) where
  module _ (code : ℕ) (v : p.verdict ≡ Reject code) where
    reject_is : worked room s bytes l
        ≡ with_image (closed_state s.image s.working p.group code) (settled_image (closed_state s.image s.working p.group code).image)
    unfolding work_effect_by done_step
    reject_is = ap (λ o. o.state) (work_done room s bytes l p h i) ∙ rw (v, work_effect_by)

    -- a rejected group's step changes no register but the status of its lanes, and lower 3.0
    pub rejected_changes : ChangesOnly (or_in interrupt_set (status_set (has p.group))) s.image (worked room s bytes l).image
    unfolding closed_state
    rejected_changes = rw reject_is (keeps_then (keeps_right _ (status_changes (has p.group) code s.image)) (keeps_left _ (settled_changes _)))

    -- where lower 3.0 was settled, as after any calls from a start, not even lower 3.0
    pub rejected_changes_settled : 3 < length s.image → Settled s.image
        → ChangesOnly (status_set (has p.group)) s.image (worked room s bytes l).image
    unfolding closed_state
    rejected_changes_settled size q =
        let k = status_changes (has p.group) code s.image in
        rw (reject_is, settled_stays status_range status_spares k (status-within _) size q) k

    -- its lanes show the code and are idle
    pub rejected_closes : is_sound s ≡ true → length s.image ≡ image_length → Closed p.group code s (worked room s bytes l)
    unfolding closed_state
    rejected_closes o size = rw reject_is (record {
      status = λ m b e. settled_lane _ (on page11 202) 4 m (omega arith)
          ∙ status_written (has p.group) code s.image m size (omega (arith, code_fits s l p code o h i v)) b e;
      idle = freed_in s.working p.group;
      others = freed_out s.working p.group;
    })

  module _ (n : ℕ) (v : p.verdict ≡ Pass n) (b : n < 8) where
    copy_is : worked room s bytes l ≡ with_image (copied_state early s p.group n) (settled_image (copied_state early s p.group n).image)
    unfolding work_effect_by done_step pick
    copy_is = ap (λ o. o.state) (work_done room s bytes l p h i) ∙ rw (v, work_effect_by, lt-ltb n 8 b, pick)

    -- a step of a pass whose next lane is n changes the eight active settings of lane n, and lower 3.0
    pub copied_changes : ChangesOnly (or_in interrupt_set (active_of n)) s.image (worked room s bytes l).image
    unfolding copied_state copy_next copy_lane
    copied_changes = rw copy_is (keeps_then (keeps_right _ (active_changes _ n s.image)) (keeps_left _ (settled_changes _)))

    -- to what copying writes of lane n's held settings; the next lane is the following one of the group
    pub copied-lane : is_sound s ≡ true → length s.image ≡ image_length → CopiedLane p.group n s (worked room s bytes l)
    unfolding copied_state copy_next copy_lane
    copied-lane o size = rw copy_is (record {
      member = next_fits s l p n o h i v b;
      settings = settings-read (written_settings (held_in (stage_at s.working n))) n s.image size b (λ k c. written_fits s n k o b c);
      next = advanced_in s.working p.group (next_in 8 p.group (suc n));
      others = advanced_out s.working p.group (next_in 8 p.group (suc n));
    })

    -- the next lane rises at every step, and not above the end
    pub copied_ascends : (n < next_in 8 p.group (suc n)) × (next_in 8 p.group (suc n) ≤ 8)
    copied_ascends = (next_le 8 p.group (suc n), next_bound 8 p.group (suc n) b)

  module _ (n : ℕ) (v : p.verdict ≡ Pass n) (b : 8 ≤ n) where
    closing_state : State
    closing_state = closed_state (pending_after (is_release s.working p.group) p.trigger p.group s.image) s.working p.group success

    close_is : worked room s bytes l ≡ with_image closing_state (settled_image closing_state.image)
    unfolding closing_state work_effect_by done_step closing_effect copy_group pick
    close_is = ap (λ o. o.state) (work_done room s bytes l p h i) ∙ rw (v, work_effect_by, le-ltb n 8 b, pick)

    -- the closing step of a pass changes the status and DPInitPending of its lanes, and lower 3.0
    pub passed_changes : ChangesOnly (or_in interrupt_set (or_in (status_set (has p.group)) (pending_set (has p.group))))
        s.image (worked room s bytes l).image
    unfolding closing_state closed_state
    passed_changes = rw close_is
        (keeps_then (keeps_right _ (keeps_then (keeps_right _ (pending-after p.group s.image _ _)) (keeps_left _ (status_changes _ _ _))))
        (keeps_left _ (settled_changes _)))

    -- its lanes show success and are idle
    pub passed_closes : length s.image ≡ image_length → Closed p.group success s (worked room s bytes l)
    unfolding closing_state closed_state
    passed_closes size = rw close_is (record {
      status = λ m c e. settled_lane _ (on page11 202) 4 m (omega arith)
          ∙ status_written (has p.group) success _ m ((pending-after p.group s.image _ _).size ∙ size) (omega arith) c e;
      idle = freed_in s.working p.group;
      others = freed_out s.working p.group;
    })

    -- and their DPInitPending bits are cleared, set or left
    pub passed-pending : length s.image ≡ image_length → (m : ℕ) → m < 8 → has p.group m ≡ true
        → get (worked room s bytes l).image (pending_at m) ≡ pending_then (is_release s.working p.group) p.trigger (get s.image (pending_at m))
    unfolding closing_state closed_state status_set
    passed-pending size m c e = rw close_is (settled_lane _ (on page11 235) 1 m (omega arith)
        ∙ keeps_lane (status_changes _ _ _) (on page11 235) 1 m c refl
        (λ j k f g. unless (λ t. let r = lanes_bytes _ (on page11 202) 4 j k refl t in omega arith))
        ∙ pending-then p.group s.image _ _ m size c e)
