-- A hardware event that is done changes DPState, DPStateChanged and DPInitPending of its path's lanes, and lower 3.0, and no record. Assumes nothing.
use mathlib.Core.Path.{◌≡◌, refl, sym, ap, ◌∙◌}
use mathlib.Core.Bool.{Bool, true, false, not}
use mathlib.Core.List.{List}
use Prim.Native.Nat.{ℕ, ◌+◌, ◌≤◌, ◌<◌}
use native.Mathlib.Omega.{arith}
use lib.Dec.{eqb}
use lib.ListN.{length}
use borrow.Author.Tests.{ltb-true, not-false, eq-eqb}
use Rattle.bits.specs.Choice.{pick, only_if, both}
use Rattle.bits.specs.Place.{get}
use Rattle.bits.specs.Sets.{has, lane_count}
use Rattle.bits.proofs.Tests.{split, only_true, only_false, pick_true, pick-false}
use Rattle.model.specs.Map.{Image, active_set, state_at, pending_at, flag_at, state_changed_flag, page11, on, image_length, flag_bytes, set_length, state_bytes}
use Rattle.model.specs.PathStates.{code_of, state_of, resting}
use Rattle.model.specs.View.{settings_of, path_of}
use Rattle.model.specs.State.{State}
use Rattle.model.specs.Registers.{with_pending, with_path_state, with_flags}
use Rattle.model.specs.Power.{holds_down}
use Rattle.model.specs.Hardware.{signals_of, next_state, is_state, is_initialized, entered_image, moved_image, moved_path_image, hardware_image}
use Rattle.model.specs.Flags.{settled_image}
use Rattle.model.specs.Answers.{is_done}
use Rattle.model.specs.Refusals.{event_refusals, no_such_lane}
use Rattle.model.specs.Step.{event, event_effect, done_step}
use Rattle.model.specs.declared.answer.Answer.TheVariants.{Done, NoSuchTarget}
use Rattle.model.specs.declared.event.Call.TheVariants.{Hardware}
use Rattle.model.specs.declared.path.PathState.{PathState}
use Rattle.model.specs.declared.path.PathState.TheVariants.{Reserved, Deactivated, Init, Deinit, Activated, TxTurnOn, TxTurnOff, Initialized}
use Rattle.laws_frames.proofs.Back.{flag_in}
use Rattle.laws_step.specs.Changes.{ChangesOnly, or_in, interrupt_set, state_set, flag_set, pending_set}
use Rattle.laws_step.specs.Told.{step_on, path_set, PathMoved}
use Rattle.laws_step.proofs.Frames.{unless, keeps_then, keeps_left, keeps_right, keeps_only, keeps_lanes, keeps_lane, lanes_written, lanes_bytes}
use Rattle.laws_step.proofs.Settling.{settled_lane}
use Rattle.laws_step.proofs.Stepped.{not-refused, none-refused, done_step_lem, step_changes}
use Rattle.laws_step.proofs.Working.{pending_changes, pending_written}

pub flag_changes : (address g : ℕ) (x : Image) → ChangesOnly (flag_set address (has g)) x (with_flags address g x)
unfolding with_flags flag_set
flag_changes address g x = keeps_lanes (has g) (on page11 address) 1 (λ l. 1) x

state_changes : (g : ℕ) (to : PathState) (x : Image) → ChangesOnly (state_set (has g)) x (with_path_state g to x)
unfolding with_path_state state_set
state_changes g to x = keeps_lanes (has g) (on page11 128) 4 (λ l. code_of to) x

-- every state has a code of four bits
code_small : (to : PathState) → code_of to < 16
code_small Reserved = omega arith
code_small Deactivated = omega arith
code_small Init = omega arith
code_small Deinit = omega arith
code_small Activated = omega arith
code_small TxTurnOn = omega arith
code_small TxTurnOff = omega arith
code_small Initialized = omega arith

-- the three kinds of registers lie in bytes of their own
states_only : (c : ℕ → Bool) (i b : ℕ) → state_bytes + 4 ≤ i → state_set c i b ≡ false
unfolding state_set
states_only c i b h = unless (λ t. let r = lanes_bytes c (on page11 128) 4 i b refl t in omega arith)

flags_only : (c : ℕ → Bool) (i b : ℕ) → (i ≡ flag_bytes → ⊥) → flag_set state_changed_flag c i b ≡ false
unfolding flag_set
flags_only c i b n = unless (λ t. let r = lanes_bytes c (on page11 134) 1 i b refl t in n (omega arith))

pending_only : (c : ℕ → Bool) (i b : ℕ) → i < active_set + set_length → pending_set c i b ≡ false
unfolding pending_set
pending_only c i b h = unless (λ t. let r = lanes_bytes c (on page11 235) 1 i b refl t in omega arith)

module _ (g : ℕ) (from to : PathState) (x : Image) where
  -- one after the other: the states, what is pending, the flags
  in_state : Image
  in_state = with_path_state g to x

  cleared : Image
  cleared = only_if (is_initialized from to) (with_pending (has g) 0) in_state

  clears : ChangesOnly (pending_set (has g)) in_state cleared
  unfolding cleared
  clears = keeps_only _ (is_initialized from to) _ in_state (pending_changes (has g) 0 in_state)

  flags : ChangesOnly (flag_set state_changed_flag (has g)) cleared (entered_image g from to x)
  unfolding cleared in_state entered_image
  flags = keeps_only _ (resting to) _ cleared (flag_changes state_changed_flag g cleared)

  enter_changes : ChangesOnly (path_set g) x (entered_image g from to x)
  unfolding path_set in_state
  enter_changes = keeps_then (keeps_left _ (state_changes g to x)) (keeps_then (keeps_right _ (keeps_right _ clears)) (keeps_right _ (keeps_left _ flags)))

  move_changes : ChangesOnly (path_set g) x (moved_image g from to x)
  unfolding moved_image
  move_changes = keeps_only _ (not (is_state from to)) _ x enter_changes

  module _ (size : length x ≡ image_length) (m : ℕ) (h : m < 8) (e : has g m ≡ true) where
    state_entered : get (entered_image g from to x) (state_at m) ≡ code_of to
    unfolding in_state with_path_state
    state_entered =
        keeps_lane flags (on page11 128) 4 m h refl (λ i b p q. flags_only _ i b (omega arith))
        ∙ keeps_lane clears (on page11 128) 4 m h refl (λ i b p q. pending_only _ i b (omega arith))
        ∙ lanes_written (has g) (on page11 128) 4 (code_of to) x m (omega arith) refl (code_small to) h e

    size_cleared : length cleared ≡ image_length
    unfolding in_state
    size_cleared = clears.size ∙ (state_changes g to x).size ∙ size

    flag_entered : get (entered_image g from to x) (flag_at state_changed_flag m) ≡ pick (resting to) 1 (get x (flag_at state_changed_flag m))
    unfolding entered_image cleared in_state
    flag_entered = split (resting to)
        (λ t. rw (only_true (with_flags state_changed_flag g) cleared t)
        (flag_in cleared state_changed_flag g m (omega (arith, size_cleared)) h e) ∙ sym (pick_true _ _ t))
        (λ t. rw (only_false (with_flags state_changed_flag g) cleared t)
        (keeps_lane clears (on page11 134) 1 m h refl (λ i b p q. pending_only _ i b (omega arith))
        ∙ keeps_lane (state_changes g to x) (on page11 134) 1 m h refl (λ i b p q. states_only _ i b (omega arith))) ∙ sym (pick-false _ _ t))

    pending_entered : get (entered_image g from to x) (pending_at m) ≡ pick (is_initialized from to) 0 (get x (pending_at m))
    unfolding cleared in_state
    pending_entered =
        keeps_lane flags (on page11 235) 1 m h refl (λ i b p q. flags_only _ i b (omega arith))
        ∙ split (is_initialized from to)
        (λ t. rw (only_true (with_pending (has g) 0) in_state t)
        (pending_written (has g) 0 in_state m ((state_changes g to x).size ∙ size) (omega arith) h e) ∙ sym (pick_true _ _ t))
        (λ t. rw (only_false (with_pending (has g) 0) in_state t)
        (keeps_lane (state_changes g to x) (on page11 235) 1 m h refl (λ i b p q. states_only _ i b (omega arith))) ∙ sym (pick-false _ _ t))

  stays_there : is_state from to ≡ true → moved_image g from to x ≡ x
  unfolding moved_image only_if
  stays_there e = rw (e, only_if)

  goes_there : is_state from to ≡ false → moved_image g from to x ≡ entered_image g from to x
  unfolding moved_image only_if
  goes_there e = rw (e, only_if)

  path_moved : length x ≡ image_length → PathMoved g from to x (settled_image (moved_image g from to x))
  unfolding pick both
  path_moved size = record {
    states = λ m h e. settled_lane _ (on page11 128) 4 m (omega arith) ∙ split (is_state from to)
        (λ t. rw (stays_there t, t, pick))
        (λ t. rw (goes_there t, t, pick) (state_entered size m h e));
    flags = λ m h e. settled_lane _ (on page11 134) 1 m (omega arith) ∙ split (is_state from to)
        (λ t. rw (stays_there t, t, both, pick))
        (λ t. rw (goes_there t, t, both) (flag_entered size m h e));
    pendings = λ m h e. settled_lane _ (on page11 235) 1 m (omega arith) ∙ split (is_state from to)
        (λ t. rw (stays_there t, t, both, pick))
        (λ t. rw (goes_there t, t, both) (pending_entered size m h e));
  }

-- ---- the step

module _ (room : ℕ) (s : State) (bytes : List ℕ) (l : ℕ) (d : (step_on room s (Hardware l) bytes).answer ≡ Done) where
  pub hardware_changes : ChangesOnly (or_in interrupt_set (path_set (path_of (settings_of active_set s.image) l)))
      s.image (step_on room s (Hardware l) bytes).state.image
  unfolding event_effect hardware_image moved_path_image
  hardware_changes = step_changes room s (event (Hardware l) bytes) _ d (move_changes _ _ _ s.image)

  pub hardware_keeps_records : (step_on room s (Hardware l) bytes).state.working ≡ s.working
  unfolding done_step event_effect
  hardware_keeps_records = rw (done_step_lem room s (event (Hardware l) bytes) d)

  -- the path of lane l goes from the state that lane l shows to the one that follows by the path's signals
  pub hardware-moves : length s.image ≡ image_length → let g = path_of (settings_of active_set s.image) l in let from = state_of (get s.image (state_at l)) in
      PathMoved g from (next_state from (signals_of (holds_down s.working.line s.image) s.image g)) s.image (step_on room s (Hardware l) bytes).state.image
  unfolding done_step event_effect hardware_image moved_path_image
  hardware-moves size = rw (done_step_lem room s (event (Hardware l) bytes) d) (path_moved _ _ _ s.image size)

  -- the lane is one of the module's
  pub hardware-lane : l < lane_count
  unfolding event_refusals no_such_lane is_done
  hardware-lane = ltb-true l lane_count (not-false _ (not-refused NoSuchTarget _ _ refl (none-refused room s (event (Hardware l) bytes) d)).0)

  -- a path whose state follows itself changes nothing but lower 3.0, which every event settles
  pub hardware_stays : let from = state_of (get s.image (state_at l)) in
      next_state from (signals_of (holds_down s.working.line s.image) s.image (path_of (settings_of active_set s.image) l)) ≡ from
      → (step_on room s (Hardware l) bytes).state.image ≡ settled_image s.image
  unfolding done_step event_effect hardware_image moved_path_image is_state
  hardware_stays e = rw (done_step_lem room s (event (Hardware l) bytes) d)
      (ap settled_image (stays_there _ _ _ s.image (ap (λ p. eqb (code_of (state_of (get s.image (state_at l)))) (code_of p)) e ∙ eq-eqb (code_of (state_of (get s.image (state_at l)))) _ refl)))
