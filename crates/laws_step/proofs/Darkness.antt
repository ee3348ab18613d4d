-- After any calls from start the module is in one of its four states, and in every one but ModuleReady all lanes are DPDeactivated. Assumes nothing.
use mathlib.Core.Path.{◌≡◌, refl, ap, ◌∙◌}
use mathlib.Core.Bool.{Bool, true, false, not}
use mathlib.Core.List.{List}
use mathlib.Core.Logic.{◌≢◌}
use Prim.Native.Nat.{ℕ, ◌≤◌, ◌<◌}
use native.Mathlib.Decide.{ℕ_discrete}
use native.Mathlib.Omega.{arith}
use lib.Dec.{eqb}
use lib.ListN.{length}
use borrow.Author.Tests.{eqb-true, eqb-false}
use Rattle.bits.specs.Choice.{pick, both, either}
use Rattle.bits.specs.Place.{get, covers}
use Rattle.bits.proofs.Tests.{split, clash, pick_true, pick-false, pick-has}
use Rattle.bits.proofs.Loops.{all_at}
use Rattle.bits.proofs.Places.{covers_in}
use Rattle.model.specs.Map.{Image, image_length, interrupt_bit, module_state, module_state_bits, module_changed_bit, state_bytes, state_at, in_ranges}
use Rattle.model.specs.PathStates.{state_of}
use Rattle.model.specs.State.{State}
use Rattle.model.specs.Work.{early}
use Rattle.model.specs.Flags.{settled_image}
use Rattle.model.specs.Power.{module_code_of, module_state_of, shown_module_state, is_module_state, is_dark, next_module_state}
use Rattle.model.specs.Start.{started_state, reset_state}
use Rattle.model.specs.Step.{step}
use Rattle.model.specs.Outcome.{start_outcome}
use Rattle.model.specs.declared.answer.Answer.TheVariants.{Done}
use Rattle.model.specs.declared.event.Call.{Call}
use Rattle.model.specs.declared.event.Call.TheVariants.{Write, Read, Work, Hardware, Condition, Sample, Lasting, Module, Line}
use Rattle.model.specs.declared.event.Event.{Event}
use Rattle.model.specs.declared.path.Signals.{Signals}
use Rattle.model.specs.declared.path.PathState.TheVariants.{Deactivated}
use Rattle.model.specs.declared.power.ModuleState.{ModuleState}
use Rattle.model.specs.declared.power.ModuleState.TheVariants.{Other, LowPwr, PwrUp, Ready, PwrDn}
use Rattle.laws.specs.Calls.{Called, state_after}
use Rattle.laws_frames.specs.Frames.{is_reset}
use Rattle.laws_step.specs.Changes.{or_in, interrupt_set, state_set, flag_set, pending_set}
use Rattle.laws_step.specs.Told.{step_on, module_set, path_set, ModuleMoved, not_ready, DarkBelowReady}
use Rattle.laws_step.proofs.Frames.{unless, neither, keeps_get, lanes_bytes}
use Rattle.laws_frames.specs.Frames.{state_end}
use Rattle.laws_frames.proofs.Ranges.{apart_from, not_in}
use Rattle.laws_frames.proofs.Registers.{lane-from, lane-to}
use Rattle.model.specs.Hardware.{next_state}
use Rattle.laws_step.proofs.Settling.{settled_lane, past_interrupt}
use Rattle.laws_step.proofs.Beginning.{start-size, start-state, start-lane}
use Rattle.laws_step.proofs.Moving.{hardware_changes, hardware-lane, hardware_stays}
use Rattle.laws_step.proofs.Powering.{module_changes, module_moves, down_exactly}
use Rattle.laws_step.proofs.Keeping.{Calm, calm_if, is_calm, call_calm, event_keeps}
use Rattle.laws_step.proofs.Calling.{calls-from-start}
use Rattle.laws_step.proofs.Running.{step-size}

-- ---- what is left alone

-- lower 3.0 lies apart from the module's state
interrupt_apart : (i b : ℕ) → covers module_state_bits i b ≡ true → interrupt_set i b ≡ false
unfolding interrupt_set
interrupt_apart i b c = unless (λ t. omega (arith, (covers_in module_state_bits i b c).from, (covers_in interrupt_bit i b t).to))

-- DPState lies past it
lane_byte : (l : ℕ) → l < 8 → (i b : ℕ) → covers (state_at l) i b ≡ true → (state_bytes ≤ i) × (i < state_end)
lane_byte l h i b c = let e = (covers_in (state_at l) i b c).here in (omega (arith, lane-from state_bytes 4 l h refl), omega (arith, lane-to state_bytes 4 l h refl))

-- a calm event changes neither
state_calm : (runs : Bool) → in_ranges (calm_if runs) module_state ≡ false
unfolding calm_if in_ranges both either
state_calm true = refl
state_calm false = refl

lanes_calm : (runs : Bool) (i : ℕ) → state_bytes ≤ i → i < state_end → in_ranges (calm_if runs) i ≡ false
unfolding calm_if apart_from both either
lanes_calm true i a b = unless (not_in state_bytes state_end (calm_if true) i refl a b)
lanes_calm false i a b = unless (not_in state_bytes state_end (calm_if false) i refl a b)

module _ (runs : Bool) (x y : Image) (C : Calm runs x y) where
  calm_state : get y module_state_bits ≡ get x module_state_bits
  unfolding or_in
  calm_state = keeps_get C.changes module_state_bits (λ i b c. neither (interrupt_apart i b c)
      (unless (λ t. clash (rw (← (covers_in module_state_bits i b c).here) at (C.within i b t)) (state_calm runs))))

  calm_lane : (l : ℕ) → l < 8 → get y (state_at l) ≡ get x (state_at l)
  unfolding or_in
  calm_lane l h = keeps_get C.changes (state_at l) (λ i b c.
      let r = lane_byte l h i b c in
      neither (past_interrupt i b (omega arith)) (unless (λ t. clash (C.within i b t) (lanes_calm runs i r.0 r.1))))

-- ---- a module event

-- the table names one of the four states after one of them
named-most : (p : ModuleState) → module_code_of p ≤ 4
named-most Other = omega arith
named-most LowPwr = omega arith
named-most PwrUp = omega arith
named-most Ready = omega arith
named-most PwrDn = omega arith

pick-named : (b : Bool) (p q : ModuleState) → 1 ≤ module_code_of p → 1 ≤ module_code_of q → 1 ≤ module_code_of (pick b p q)
unfolding pick
pick-named true p q h k = h
pick-named false p q h k = k

next-named : (from : ModuleState) (low dark : Bool) → 1 ≤ module_code_of from → 1 ≤ module_code_of (next_module_state from low dark)
unfolding next_module_state
next-named Other low dark h = h
next-named LowPwr low dark h = pick-named _ LowPwr PwrUp (omega arith) (omega arith)
next-named PwrUp low dark h = pick-named _ PwrDn Ready (omega arith) (omega arith)
next-named Ready low dark h = pick-named _ PwrDn Ready (omega arith) (omega arith)
next-named PwrDn low dark h = omega arith

-- a code of 1 to 4 names a state
code-named : (n : ℕ) → 1 ≤ n → n ≤ 4 → 1 ≤ module_code_of (module_state_of n)
unfolding module_state_of
code-named n a b = split (eqb n 1) (λ t. rw (pick_true _ _ t) (omega arith))
    (λ t. rw (pick-false _ _ t) (split (eqb n 2) (λ u. rw (pick_true _ _ u) (omega arith))
    (λ u. rw (pick-false _ _ u) (split (eqb n 3) (λ v. rw (pick_true _ _ v) (omega arith))
    (λ v. rw (pick-false _ _ v) (split (eqb n 4) (λ w. rw (pick_true _ _ w) (omega arith))
    (λ w. absurd (omega (arith, eqb-false n 1 t, eqb-false n 2 u, eqb-false n 3 v, eqb-false n 4 w)))))))))

-- ModuleReady is left only when every lane is dark
ready_left : (low dark : Bool) → module_code_of (next_module_state Ready low dark) ≢ module_code_of Ready → dark ≡ true
unfolding next_module_state pick both
ready_left true true n = refl
ready_left true false n = absurd (n refl)
ready_left false dark n = absurd (n refl)

ready_of : (n : ℕ) → n ≡ module_code_of Ready → module_state_of n ≡ Ready
unfolding module_state_of pick
ready_of n e = rw e

module _ (x y : Image) (low dark flagged : Bool) (M : ModuleMoved (shown_module_state x) (next_module_state (shown_module_state x) low dark) flagged x y) where
  -- one of the four states after one of them
  moved_named : 1 ≤ get x module_state_bits → get x module_state_bits ≤ 4 → (1 ≤ get y module_state_bits) × (get y module_state_bits ≤ 4)
  unfolding shown_module_state
  moved_named a b =
      let k = next-named (module_state_of (get x module_state_bits)) low dark (code-named (get x module_state_bits) a b) in
      (rw M.state (pick-has (λ c. 1 ≤ c) _ (λ t. a) (λ t. k)), rw M.state (pick-has (λ c. c ≤ 4) _ (λ t. b) (λ t. named-most (next_module_state (shown_module_state x) low dark))))

  moved_left : get x module_state_bits ≡ module_code_of Ready → get y module_state_bits ≢ module_code_of Ready → dark ≡ true
  unfolding shown_module_state
  moved_left r o = split (is_module_state (shown_module_state x) (next_module_state (shown_module_state x) low dark))
      (λ t. absurd (o (M.state ∙ pick_true _ _ t ∙ r)))
      (λ t. ready_left low dark (λ e. o (M.state ∙ pick-false _ _ t ∙ ap (λ p. module_code_of (next_module_state p low dark)) (ready_of _ r) ∙ e)))

-- ---- every event

-- the length, and that the module is dark below ModuleReady
record Held (s : State) : Type 0 where
  size : length s.image ≡ image_length
  below : DarkBelowReady s.image

module _ (room : ℕ) (s : State) (bytes : List ℕ) (H : Held s) where
  module_lane : (step_on room s Module bytes).answer ≡ Done → (l : ℕ) → l < 8
      → get (step_on room s Module bytes).state.image (state_at l) ≡ get s.image (state_at l)
  unfolding module_set or_in
  module_lane d l h = keeps_get (module_changes room s bytes d) (state_at l) (λ i b c.
      let r = lane_byte l h i b c in
      neither (past_interrupt i b (omega arith))
      (neither (unless (λ t. omega (arith, (covers_in module_state_bits i b t).here))) (unless (λ t. omega (arith, (covers_in module_changed_bit i b t).here)))))

  module_below : (step_on room s Module bytes).answer ≡ Done → DarkBelowReady (step_on room s Module bytes).state.image
  unfolding is_dark
  module_below d =
      let M = module_moves room s bytes d H.size in
      let n = moved_named s.image _ _ _ _ M H.below.least H.below.most in
      record {
        least = n.0;
        most = n.1;
        dark = λ o l h. module_lane d l h ∙ elim (ℕ_discrete (get s.image module_state_bits) (module_code_of Ready)) [
          | no r ↦ H.below.dark r l h
          | yes r ↦ eqb-true _ _ (all_at 8 _ (moved_left s.image _ _ _ _ M r o) l h)
        ];
      }

  -- a path below ModuleReady is held down, so it stays in DPDeactivated
  held_path : (by : Signals) → by.deinit ≡ true → next_state Deactivated by ≡ Deactivated
  unfolding next_state
  held_path by e = pick_true _ _ e

  module _ (l : ℕ) (d : (step_on room s (Hardware l) bytes).answer ≡ Done) where
    hardware-state : get (step_on room s (Hardware l) bytes).state.image module_state_bits ≡ get s.image module_state_bits
    unfolding or_in path_set state_set flag_set pending_set
    hardware-state = keeps_get (hardware_changes room s bytes l d) module_state_bits (λ i b c.
        let e = (covers_in module_state_bits i b c).here in
        neither (interrupt_apart i b c)
        (neither (unless (λ t. omega (arith, lanes_bytes _ _ 4 i b refl t)))
        (neither (unless (λ t. omega (arith, lanes_bytes _ _ 1 i b refl t))) (unless (λ t. omega (arith, lanes_bytes _ _ 1 i b refl t))))))

    hardware-dark : get s.image module_state_bits ≢ module_code_of Ready → (step_on room s (Hardware l) bytes).state.image ≡ settled_image s.image
    unfolding state_of pick
    hardware-dark r = hardware_stays room s bytes l d
        (rw (H.below.dark r l (hardware-lane room s bytes l d)) (held_path _ ((down_exactly s.working.line s.image _).1 (not_ready r))))

    hardware_below : DarkBelowReady (step_on room s (Hardware l) bytes).state.image
    hardware_below = record {
      least = rw hardware-state H.below.least;
      most = rw hardware-state H.below.most;
      dark = λ o m h. let r : get s.image module_state_bits ≢ module_code_of Ready = λ e. o (hardware-state ∙ e) in
          ap (λ z. get z (state_at m)) (hardware-dark r) ∙ settled_lane s.image state_bytes 4 m (omega arith) ∙ H.below.dark r m h;
    }

  calm_below : (c : Call) → is_calm bytes c ≡ true → (step_on room s c bytes).answer ≡ Done → DarkBelowReady (step_on room s c bytes).state.image
  calm_below c n d =
      let C = call_calm room s bytes c n d in
      let e = calm_state _ _ _ C in
      record {
        least = rw e H.below.least;
        most = rw e H.below.most;
        dark = λ o l h. calm_lane _ _ _ C l h ∙ H.below.dark (λ q. o (e ∙ q)) l h;
      }

  call_below : (c : Call) → is_reset bytes c ≡ false → (step_on room s c bytes).answer ≡ Done → DarkBelowReady (step_on room s c bytes).state.image
  unfolding is_calm
  call_below (Write address count) n d = calm_below (Write address count) (ap not n) d
  call_below (Read address count) n d = calm_below (Read address count) refl d
  call_below (Work l) n d = calm_below (Work l) refl d
  call_below (Hardware l) n d = hardware_below l d
  call_below (Condition flag mask) n d = calm_below (Condition flag mask) refl d
  call_below (Sample l p) n d = calm_below (Sample l p) refl d
  call_below (Lasting flag on off) n d = calm_below (Lasting flag on off) refl d
  call_below Module n d = module_below d
  call_below (Line on) n d = calm_below (Line on) refl d

start_below : (x : Image) → DarkBelowReady (started_state x).image
start_below x = record { least = omega (arith, start-state x); most = omega (arith, start-state x); dark = λ o l h. start-lane x l h }

step-held : (room : ℕ) (s : State) (e : Event) → Held s → Held (step early room s e).state
unfolding reset_state
step-held room s e H = record {
  size = step-size room s e H.size;
  below = event_keeps (λ t. DarkBelowReady t.image) room s e H.below (start_below s.image) (λ n d. call_below room s e.bytes H e.call n d);
}

-- DARK BELOW ModuleReady, after any calls from start
pub run-dark : (x : Image) (cs : List Called) → (start_outcome x).answer ≡ Done → DarkBelowReady (state_after (start_outcome x).state cs).image
run-dark x cs d = (calls-from-start Held step-held x cs d (record { size = start-size x; below = start_below x })).below
