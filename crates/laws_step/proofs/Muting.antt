-- A hardware event that is done takes a path with a muted output out of the states in which it shines, or keeps it out of them. Assumes nothing.
use mathlib.Core.Path.{◌≡◌, refl, sym, ap, ◌∙◌}
use mathlib.Core.Bool.{Bool, true, false}
use mathlib.Core.List.{List}
use mathlib.Core.Logic.{◌⊎◌, inl, inr}
use Prim.Native.Nat.{ℕ, ◌<◌}
use lib.ListN.{length}
use borrow.Author.Tests.{eqb-true, eq-eqb}
use Rattle.bits.specs.Choice.{pick, either}
use Rattle.bits.specs.Place.{get}
use Rattle.bits.specs.Sets.{has, some_in}
use Rattle.bits.specs.declared.Place.{Place}
use Rattle.bits.proofs.Tests.{split, both_i, either_i_l, either_i_r, pick_true, pick-false}
use Rattle.bits.proofs.Loops.{any_one}
use Rattle.model.specs.Map.{Image, active_set, state_at, output_disable_at, squelch_force_at, image_length}
use Rattle.model.specs.PathStates.{code_of, state_of}
use Rattle.model.specs.View.{settings_of, path_of}
use Rattle.model.specs.State.{State}
use Rattle.model.specs.Power.{holds_down}
use Rattle.model.specs.Hardware.{some_bit, to_deactivate, signals_of, next_state, is_state}
use Rattle.model.specs.declared.answer.Answer.TheVariants.{Done}
use Rattle.model.specs.declared.event.Call.TheVariants.{Hardware}
use Rattle.model.specs.declared.path.PathState.{PathState}
use Rattle.model.specs.declared.path.Signals.{Signals}
use Rattle.model.specs.declared.path.PathState.TheVariants.{Reserved, Deactivated, Init, Deinit, Activated, TxTurnOn, TxTurnOff, Initialized}
use Rattle.laws_step.specs.Told.{step_on, MutedLane, shines}
use Rattle.laws_step.proofs.Moving.{hardware-moves}

-- ---- the table

dark-pick : (b : Bool) (p q : PathState) → shines p ≡ false → shines q ≡ false → shines (pick b p q) ≡ false
unfolding pick
dark-pick true p q hp hq = hp
dark-pick false p q hp hq = hq

-- a path that is to be deactivated goes to no state in which it shines
dark-next : (from : PathState) (by : Signals) → by.deactivate ≡ true → shines (next_state from by) ≡ false
unfolding next_state shines is_state either
dark-next Reserved by d = refl
dark-next Deactivated by d = dark-pick by.deinit Deactivated Init refl refl
dark-next Init by d = dark-pick by.deinit Deinit Initialized refl refl
dark-next Deinit by d = refl
dark-next Activated by d = rw (pick_true TxTurnOff Activated d)
dark-next TxTurnOn by d = rw (pick_true TxTurnOff Activated d)
dark-next TxTurnOff by d = refl
dark-next Initialized by d = dark-pick by.reinit Deinit _ refl (rw (pick_true Initialized TxTurnOn d))

-- ---- the signal

some_one : (x : Image) (place : ℕ → Place) (g m : ℕ) → m < 8 → has g m ≡ true → get x (place m) ≡ 1 → some_bit x place g ≡ true
unfolding some_bit some_in
some_one x place g m b h e = any_one 8 _ m b (both_i h (eq-eqb _ _ e))

muted-told : (down : Bool) (x : Image) (g : ℕ) → MutedLane x g → (signals_of down x g).deactivate ≡ true
unfolding signals_of to_deactivate
muted-told down x g M = either_i_r _ _ (told M.is_muted)
  where
    told : (get x (output_disable_at M.lane) ≡ 1) ⊎ (get x (squelch_force_at M.lane) ≡ 1)
        → either (some_bit x output_disable_at g) (some_bit x squelch_force_at g) ≡ true
    told (inl e) = either_i_l _ _ (some_one x output_disable_at g M.lane M.is_lane M.is_on_path e)
    told (inr e) = either_i_r _ _ (some_one x squelch_force_at g M.lane M.is_lane M.is_on_path e)

-- ---- the event

state_back : (p : PathState) → state_of (code_of p) ≡ p
unfolding state_of pick
state_back Reserved = refl
state_back Deactivated = refl
state_back Init = refl
state_back Deinit = refl
state_back Activated = refl
state_back TxTurnOn = refl
state_back TxTurnOff = refl
state_back Initialized = refl

same-state : (from to : PathState) → is_state from to ≡ true → from ≡ to
unfolding is_state
same-state from to e = sym (state_back from) ∙ ap state_of (eqb-true (code_of from) (code_of to) e) ∙ state_back to

shown : (n : ℕ) (to : PathState) → state_of (pick (is_state (state_of n) to) n (code_of to)) ≡ to
shown n to = split (is_state (state_of n) to)
    (λ t. rw (pick_true n (code_of to) t) (same-state _ _ t))
    (λ t. rw (pick-false n (code_of to) t) (state_back to))

module _ (room : ℕ) (s : State) (bytes : List ℕ) (l : ℕ) (d : (step_on room s (Hardware l) bytes).answer ≡ Done) (size : length s.image ≡ image_length)
    (m : ℕ) (b : m < 8) (h : has (path_of (settings_of active_set s.image) l) m ≡ true)
    (agree : get s.image (state_at m) ≡ get s.image (state_at l)) where
  -- a lane of the path, which showed the path's state, shows the one that follows
  pub hardware-shows : state_of (get (step_on room s (Hardware l) bytes).state.image (state_at m))
      ≡ next_state (state_of (get s.image (state_at l))) (signals_of (holds_down s.working.line s.image) s.image (path_of (settings_of active_set s.image) l))
  hardware-shows = rw ((hardware-moves room s bytes l d size).states m b h, agree) (shown (get s.image (state_at l)) _)

  -- .. and with a muted output on the path it shows none in which the path shines
  pub muted_goes_dark : MutedLane s.image (path_of (settings_of active_set s.image) l)
      → shines (state_of (get (step_on room s (Hardware l) bytes).state.image (state_at m))) ≡ false
  muted_goes_dark M = rw hardware-shows (dark-next _ _ (muted-told _ s.image _ M))
