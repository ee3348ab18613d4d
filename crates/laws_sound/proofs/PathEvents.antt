-- A hardware event keeps the invariant: it moves a path that has no lane in progress. Assumes nothing.
use mathlib.Core.Path.{◌≡◌, refl, sym, ◌∙◌}
use mathlib.Core.Bool.{Bool, true, false}
use mathlib.Core.Logic.{inl, inr}
use Prim.Native.Nat.{ℕ, ◌≤◌, ◌<◌}
use native.Mathlib.Omega.{arith}
use lib.Dec.{leb}
use lib.ListN.{length}
use borrow.Author.Tests.{leb-true, le-leb}
use Rattle.bits.specs.Choice.{pick, only_if, both, implies}
use Rattle.bits.specs.Place.{get}
use Rattle.bits.specs.Sets.{has}
use Rattle.bits.specs.Loop.{all_below}
use Rattle.bits.specs.declared.Place.{Place}
use Rattle.bits.proofs.Tests.{implies_use}
use Rattle.bits.proofs.Loops.{all_at, tab_at}
use Rattle.model.specs.Map.{Image, active_set, status_at, pending_at, state_at, image_length, state_bytes, pending_byte}
use Rattle.model.specs.PathStates.{code_of, state_of}
use Rattle.model.specs.Records.{stage_at, is_in_progress}
use Rattle.model.specs.View.{settings_of, states_of, of, state_in, is_used, path_of}
use Rattle.model.specs.State.{State, with_image}
use Rattle.model.specs.Hardware.{next_state, entered_image, moved_image, moved_path_image, hardware_image}
use Rattle.model.specs.Registers.{with_path_state}
use Rattle.model.specs.declared.path.PathState.{PathState}
use Rattle.model.specs.declared.path.Signals.{Signals}
use Rattle.model.specs.declared.path.PathState.TheVariants.{Reserved, Deactivated, Init, Deinit, Activated, TxTurnOn, TxTurnOff, Initialized}
use Rattle.laws_frames.proofs.Outside.{below_range, above_range}
use Rattle.laws_frames.proofs.Registers.{settings-same, applications-same, status-same, state-same, pending-same}
use Rattle.laws_frames.proofs.Changes.{off_advertised, entered_off, state_outside, pending_outside, flags_outside}
use Rattle.laws_frames.proofs.Back.{state_in_lem, state-out, pending-out}
use Rattle.laws_sound.specs.Sound.{Seen, seen_of, InWhole}
use Rattle.laws_frames.specs.Frames.{state_end, pending_end, SameOffPath}
use Rattle.laws_sound.proofs.Paths.{path_has}
use Rattle.laws_sound.proofs.Stranger.{idle_passing}
use Rattle.laws_sound.proofs.Closing.{quiet-sound}
use Rattle.laws_sound.proofs.Moving.{moving}
use Rattle.laws_sound.proofs.Quiet.{Well}

-- ---- the codes of states

code-high : (to : PathState) → code_of to ≤ 7
code-high Reserved = omega arith
code-high Deactivated = omega arith
code-high Init = omega arith
code-high Deinit = omega arith
code-high Activated = omega arith
code-high TxTurnOn = omega arith
code-high TxTurnOff = omega arith
code-high Initialized = omega arith

codes : all_below 8 (λ n. implies (leb 1 n) (leb 1 (code_of (state_of n)))) ≡ true
unfolding all_below both implies state_of pick
codes = refl

code-low : (n : ℕ) → 1 ≤ n → n ≤ 7 → 1 ≤ code_of (state_of n)
code-low n a b = leb-true _ _ (implies_use _ _ (all_at 8 _ codes n (omega arith)) (le-leb 1 n a))

pick_low : (b : Bool) (to from : PathState) → 1 ≤ code_of to → 1 ≤ code_of from → 1 ≤ code_of (pick b to from)
unfolding pick
pick_low true to from p q = p
pick_low false to from p q = q

-- a path leaves no state for a reserved one
next_low : (from : PathState) (by : Signals) → 1 ≤ code_of from → 1 ≤ code_of (next_state from by)
unfolding next_state
next_low Reserved by h = h
next_low Deactivated by h = pick_low by.deinit Deactivated Init (omega arith) (omega arith)
next_low Init by h = pick_low by.deinit Deinit Initialized (omega arith) (omega arith)
next_low Initialized by h = pick_low by.reinit Deinit _ (omega arith) (pick_low by.deactivate Initialized TxTurnOn (omega arith) (omega arith))
next_low TxTurnOn by h = pick_low by.deactivate TxTurnOff Activated (omega arith) (omega arith)
next_low Activated by h = pick_low by.deactivate TxTurnOff Activated (omega arith) (omega arith)
next_low TxTurnOff by h = omega arith
next_low Deinit by h = omega arith

pub states-lane : (x : Image) (l : ℕ) → l < 8 → state_in (states_of x) l ≡ get x (state_at l)
unfolding states_of
states-lane x l b = tab_at 8 (λ k. get x (state_at k)) l 0 b

-- ---- what is read after a path enters a state

only_get : (b : Bool) (f : Image → Image) (x : Image) (p : Place) → get (f x) p ≡ get x p → get (only_if b f x) p ≡ get x p
unfolding only_if
only_get true f x p e = e
only_get false f x p e = refl

module _ (g : ℕ) (from to : PathState) (x : Image) (m : ℕ) (b : m < 8) where
  entered_state : get (entered_image g from to x) (state_at m) ≡ get (with_path_state g to x) (state_at m)
  unfolding entered_image
  entered_state =
      only_get _ _ _ (state_at m) (state-same _ _ m b (below_range state_bytes state_end (omega arith) (flags_outside 134 g _)))
      ∙ only_get _ _ _ (state_at m) (state-same _ _ m b (below_range state_bytes state_end (omega arith) (pending_outside (has g) 0 _)))

  entered_pending : length x ≡ image_length → has g m ≡ false → get (entered_image g from to x) (pending_at m) ≡ get x (pending_at m)
  unfolding entered_image
  entered_pending n i =
      only_get _ _ _ (pending_at m) (pending-same _ _ m b (above_range pending_byte pending_end (omega arith) (flags_outside 134 g _)))
      ∙ only_get _ _ _ (pending_at m) (pending-out (with_path_state g to x) m ((state_outside g to x).size ∙ n) b (has g) 0 i)
      ∙ pending-same x _ m b (above_range pending_byte pending_end (omega arith) (state_outside g to x))

-- ---- the event
module _ (two : ℕ) (s : State) (W : Well two s) (l : ℕ) (b : l < 8) (idle : is_in_progress (stage_at s.working l) ≡ false) where
  abbrev path : ℕ
  path = path_of (settings_of active_set s.image) l

  entered_well : (from to : PathState) → 1 ≤ code_of to → Well two (with_image s (entered_image path from to s.image))
  entered_well from to low = record {
    size = off.size ∙ W.size;
    low = off.byte 2 (inl (omega arith)) (inl (omega arith)) (inl (omega arith)) ∙ W.low;
    sound =
        rw (
          settings-same active_set s.image y (λ i a c. off.byte i (inr (omega arith)) (inr (omega arith)) (inl (omega arith))),
          applications-same s.image y (off_advertised off),
        )
        (quiet-sound after (λ m. get y (status_at m)) after.pending
        (λ m bm. status-same s.image y m bm (λ i a c. off.byte i (inr (omega arith)) (inr (omega arith)) (inl (omega arith))))
        (λ m bm. refl)
        (moving (seen_of s) W.sound l b (idle_passing _ idle) after.states after.pending (code_of to) low (code-high to)
        (λ m bm t. states-lane y m bm ∙ entered_state path from to s.image m bm
        ∙ state_in_lem s.image m W.size bm path to (omega (arith, code-high to)) (path_has _ l m bm ∙ t))
        (λ m bm t. states-lane y m bm ∙ entered_state path from to s.image m bm
        ∙ state-out s.image m W.size bm path to (path_has _ l m bm ∙ t) ∙ sym (states-lane s.image m bm))
        (λ m bm t. entered_pending path from to s.image m bm W.size (path_has _ l m bm ∙ t))));
  }
    where
      y : Image
      y = entered_image path from to s.image

      off : SameOffPath s.image y
      off = entered_off path from to s.image

      after : Seen
      after = record {
        stage = (seen_of s).stage;
        active = (seen_of s).active;
        states = states_of y;
        applications = (seen_of s).applications;
        status = (seen_of s).status;
        pending = λ m. get y (pending_at m);
      }

  moved_well : (c : Bool) (from to : PathState) → 1 ≤ code_of to → Well two (with_image s (only_if c (entered_image path from to) s.image))
  unfolding only_if
  moved_well true from to low = entered_well from to low
  moved_well false from to low = W

  pub hardware_well : (down : Bool) → is_used (of (settings_of active_set s.image) l) ≡ true → Well two (with_image s (hardware_image down s.image l))
  unfolding hardware_image moved_path_image moved_image
  hardware_well down u =
      let I : InWhole (seen_of s) l = W.sound.used l b (idle_passing _ idle) u in
      let e : state_in (states_of s.image) l ≡ get s.image (state_at l) = states-lane s.image l b in
      moved_well _ _ _ (next_low _ _ (code-low (get s.image (state_at l)) (omega (arith, I.low)) (omega (arith, I.high))))
