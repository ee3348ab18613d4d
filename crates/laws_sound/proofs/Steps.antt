-- Every event keeps the invariant: triggers, written bytes, and each kind of call. Assumes nothing.
use mathlib.Core.Path.{◌≡◌, refl, ◌∙◌}
use mathlib.Core.Bool.{Bool, true, false}
use mathlib.Core.List.{List, [], ◌∷◌}
use mathlib.Core.Logic.{inl}
use Prim.Native.Nat.{ℕ, ◌+◌, suc, ◌<◌}
use native.Mathlib.Omega.{arith}
use lib.ListN.{take}
use borrow.Author.Tests.{ltb-true, not-false}
use Rattle.bits.specs.Choice.{only_if}
use Rattle.bits.specs.Place.{get}
use Rattle.bits.proofs.Tests.{split, clash, either_l, pick_true, pick-false, pick-has}
use Rattle.model.specs.Map.{Image, staged_base, active_set, status_at, pending_at, set_length, state_bytes, pending_byte, status_bytes}
use Rattle.model.specs.Statuses.{in_progress}
use Rattle.model.specs.Answers.{is_done}
use Rattle.model.specs.Records.{stage_at, is_in_progress, with_stages}
use Rattle.model.specs.View.{View, view_of, settings_of, of, is_used}
use Rattle.model.specs.State.{State, state_with}
use Rattle.model.specs.Registers.{with_status}
use Rattle.model.specs.Triggers.{is_marked, stage_after, marked_state, is_ignored, triggered_state}
use Rattle.model.specs.Work.{early}
use Rattle.model.specs.Flags.{lasting_state, sampled_state}
use Rattle.model.specs.Commands.{command_image}
use Rattle.model.specs.Access.{without_reset, stored_state, byte_written_state, bytes_written_state, resets, ended_state}
use Rattle.model.specs.Refusals.{Refusal, first_of, no_such_lane, is_busy, is_unused, event_refusals}
use Rattle.model.specs.Step.{read_effect, event_effect, done_step, refused_step, answered_step, step}
use Rattle.model.specs.declared.lane.Trigger.{Trigger}
use Rattle.model.specs.declared.lane.StagedSet.{StagedSet}
use Rattle.model.specs.declared.event.Call.{Call}
use Rattle.model.specs.declared.event.Call.TheVariants.{Write, Read, Work, Hardware, Condition, Sample, Lasting, Module, Line}
use Rattle.model.specs.declared.event.Event.{Event}
use Rattle.model.specs.declared.lane.Working.{Working}
use Rattle.laws_frames.proofs.Outside.{below_range, above_range}
use Rattle.laws_frames.proofs.Registers.{settings-same, states-same, advertised_below, applications-same, pending-same}
use Rattle.laws_frames.proofs.Stored.{stored_cases}
use Rattle.laws_frames.proofs.Changes.{status_outside}
use Rattle.laws_frames.proofs.Back.{status_in, status-out, read_fits}
use Rattle.laws_frames.proofs.Stages.{stage_in, stage-kept}
use Rattle.laws_sound.specs.Sound.{Seen, seen_of}
use Rattle.laws_frames.specs.Frames.{SameOutside, state_end, status_end, pending_end}
use Rattle.laws_sound.proofs.Closing.{quiet-sound}
use Rattle.laws_sound.proofs.Marking.{marking}
use Rattle.laws_sound.proofs.Starting.{reset_well}
use Rattle.laws_sound.proofs.Quiet.{Well, quiet_well, set-quiet, selected_quiet, settled_quiet, module_quiet, sampled_quiet, condition-quiet, cleared_quiet, shown_quiet, command_quiet, restaged_well}
use Rattle.laws_sound.proofs.WorkSteps.{settings-lane, work_well}
use Rattle.laws_sound.proofs.PathEvents.{hardware_well}

-- ---- triggers

marked_well : (two : ℕ) (t : Trigger) (set : StagedSet) (s : State) (sel : ℕ) → Well two s → Well two (marked_state t set (view_of (staged_base set) s.image) s sel)
unfolding marked_state view_of
marked_well two t set s sel W = record {
  size = changed.size ∙ W.size;
  low = changed.byte 2 (inl (omega arith)) ∙ W.low;
  sound =
      rw (
        settings-same active_set s.image y (above_range active_set (active_set + set_length) (omega arith) changed),
        states-same s.image y (below_range state_bytes state_end (omega arith) changed),
        applications-same s.image y (advertised_below (omega arith) changed),
      )
      (quiet-sound after after.status (λ l. get y (pending_at l)) (λ l b. refl)
      (λ l b. pending-same s.image y l b (above_range pending_byte pending_end (omega arith) changed))
      (marking t set v s.working sel (seen_of s).status (seen_of s).pending W.sound after.stage after.status
      (λ l b. stage_in s.working (stage_after t set v s.working sel) l b)
      (λ l b k. status_in s.image l W.size b c in_progress (omega arith) k)
      (λ l b k. status-out s.image l W.size b c in_progress k)
      (λ l b. rw (settings-lane (staged_base set) s.image l b) (read_fits (staged_base set) s.image l))));
}
  where
    v : View
    v = view_of (staged_base set) s.image

    c : ℕ → Bool
    c = is_marked v s.working sel

    y : Image
    y = with_status c in_progress s.image

    changed : SameOutside status_bytes status_end s.image y
    changed = status_outside c in_progress s.image

    after : Seen
    after = record {
      stage = stage_at (with_stages s.working (stage_after t set v s.working sel));
      active = (seen_of s).active;
      states = (seen_of s).states;
      applications = (seen_of s).applications;
      status = λ l. get y (status_at l);
      pending = (seen_of s).pending;
    }

triggered_well : (two : ℕ) (t : Trigger) (set : StagedSet) (s : State) (sel : ℕ) → Well two s → Well two (triggered_state t set s sel)
unfolding triggered_state
triggered_well two t set s sel W = pick-has (Well two) (is_ignored t s.image) (λ e. W) (λ e. marked_well two t set s sel W)

-- ---- written bytes

pub stored_well : (two i v : ℕ) (s : State) → Well two s → Well two (stored_state i v s)
stored_well two i v s W =
    stored_cases (λ u t. Well two t) i v s s (λ e. quiet_well two s.image _ s.working (selected_quiet v s.image) W) (λ kind set. triggered_well two kind set s v W)
    (λ e. quiet_well two s.image _ s.working (set-quiet s.image i (without_reset i v) e) W) W

bytes_well : (two address : ℕ) (vs : List ℕ) (s : State) → Well two s → Well two (bytes_written_state address vs s)
unfolding bytes_written_state byte_written_state
bytes_well two address [] s W = W
bytes_well two address (v ∷ vs) s W = bytes_well two (suc address) vs _ (stored_well two _ v s W)

-- ---- the end of a write

only_well : (two : ℕ) (t : Bool) (f : Image → Image) (x : Image) (w : Working) → Well two (state_with x w) → Well two (state_with (f x) w) → Well two (state_with (only_if t f x) w)
unfolding only_if
only_well two true f x w W U = U
only_well two false f x w W U = W

ended_well : (two address : ℕ) (bytes : List ℕ) (n : ℕ) (s : State) → Well two s → Well two (ended_state address bytes n s)
unfolding ended_state
ended_well two address bytes n s W =
    pick-has (Well two) (resets address bytes n) (λ e. reset_well two s W)
    (λ e. only_well two _ command_image s.image s.working W (quiet_well two s.image _ s.working (command_quiet s.image) W))

-- ---- calls that are not refused

pub not-refused : (r : Refusal) (rs : List Refusal) → is_done r.answer ≡ false → is_done (first_of (r ∷ rs)) ≡ true
    → (r.when ≡ false) × (is_done (first_of rs) ≡ true)
unfolding first_of
not-refused r rs n e = split r.when
    (λ w. absurd (clash (rw (pick_true _ _ w) at e) n))
    (λ w. (w, rw (pick-false _ _ w) at e))

pub a_lane : (l : ℕ) → no_such_lane l ≡ false → l < 8
unfolding no_such_lane
a_lane l e = ltb-true l 8 (not-false _ e)

not_busy : (s : State) (l : ℕ) → is_busy s l ≡ false → is_in_progress (stage_at s.working l) ≡ false
unfolding is_busy
not_busy s l e = either_l _ _ e

not-unused : (s : State) (l : ℕ) → is_unused s l ≡ false → is_used (of (settings_of active_set s.image) l) ≡ true
unfolding is_unused
not-unused s l e = not-false _ e

carried_well : (two room : ℕ) (s : State) (bytes : List ℕ) (call : Call) → Well two s → is_done (first_of (event_refusals room s call)) ≡ true
    → Well two (event_effect early s bytes call).state
unfolding event_effect read_effect sampled_state lasting_state event_refusals is_done
carried_well two room s bytes (Write address count) W e = ended_well two address (take count bytes) count _ (bytes_well two address (take count bytes) s W)
carried_well two room s bytes (Read address count) W e =
    quiet_well two _ _ s.working (shown_quiet s.working _ count _) (quiet_well two s.image _ s.working (cleared_quiet s.image _ count) W)
carried_well two room s bytes (Work l) W e = work_well two s l W (a_lane l (not-refused _ _ refl e).0)
carried_well two room s bytes (Hardware l) W e =
    let r₁ = not-refused _ _ refl e in
    let r₂ = not-refused _ _ refl r₁.1 in
    let r₃ = not-refused _ _ refl r₂.1 in
    hardware_well two s W l (a_lane l r₁.0) (not_busy s l r₂.0) _ (not-unused s l r₃.0)
carried_well two room s bytes (Condition flag mask) W e =
    quiet_well two s.image _ s.working (condition-quiet flag mask s.image (not-false _ (not-refused _ _ refl e).0)) W
carried_well two room s bytes (Sample l p) W e =
    restaged_well two _ s.working _ (stage-kept s.working _)
    (quiet_well two s.image _ s.working (sampled_quiet l p s.image (a_lane l (not-refused _ _ refl e).0)) W)
carried_well two room s bytes (Lasting flag on off) W e =
    restaged_well two _ s.working _ (stage-kept s.working _)
    (quiet_well two s.image _ s.working (condition-quiet flag on s.image (not-false _ (not-refused _ _ refl e).0)) W)
carried_well two room s bytes Module W e = quiet_well two s.image _ s.working (module_quiet s.working.line s.image) W
carried_well two room s bytes (Line on) W e = restaged_well two s.image s.working _ (λ l b. refl) W

-- ---- every event, refused or done

pub step_well : (two room : ℕ) (s : State) (e : Event) → Well two s → Well two (step early room s e).state
unfolding step answered_step done_step refused_step
step_well two room s e W = split (is_done (first_of (event_refusals room s e.call)))
    (λ d. rw (pick_true _ _ d) (quiet_well two _ _ _ (settled_quiet _) (carried_well two room s e.bytes e.call W d)))
    (λ d. rw (pick-false _ _ d) W)
