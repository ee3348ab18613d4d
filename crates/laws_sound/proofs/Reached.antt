-- THE PROMISES about soundness: the test is the six conditions; start is sound; every event keeps it; so no call after a start that is done is ever
-- answered 1, 2 or 3, and a flag that is on is 1.
use mathlib.Core.Path.{◌≡◌, refl, ap}
use mathlib.Core.Bool.{true, false}
use mathlib.Core.List.{List, [], ◌∷◌}
use Prim.Native.Nat.{ℕ, ◌<◌}
use native.Mathlib.Omega.{arith}
use lib.Dec.{eqb}
use lib.ListN.{length, get_or}
use borrow.Author.Tests.{eqb-true, not-false}
use Rattle.bits.specs.Choice.{pick}
use Rattle.bits.specs.Number.{field}
use Rattle.bits.specs.Place.{get}
use Rattle.bits.proofs.Tests.{clash, pick_true}
use Rattle.bits.specs.Sets.{lane_count, has}
use Rattle.model.specs.Map.{Image, flag_at, lasting_count, lasting_flag}
use Rattle.model.specs.Answers.{is_done}
use Rattle.model.specs.Records.{on_at}
use Rattle.model.specs.State.{State}
use Rattle.model.specs.Work.{early}
use Rattle.model.specs.Start.{started_state}
use Rattle.model.specs.Sound.{is_sound}
use Rattle.model.specs.Refusals.{first_of, is_flat, wrong_length, image_refusals, start_refusals, entry_refusals}
use Rattle.model.specs.Step.{step}
use Rattle.model.specs.Outcome.{start_outcome_by, start_outcome, step_outcome, call_outcome_by, call_outcome, list_outcome}
use Rattle.model.specs.declared.answer.Answer.{Answer}
use Rattle.model.specs.declared.answer.Answer.TheVariants.{Done}
use Rattle.model.specs.declared.event.Event.{Event}
use Rattle.laws.specs.Asked.{Asked, call, list, outcome_of, given_state, holds, is_unsound}
use Rattle.laws.specs.Calls.{Called, outcome_at, state_after}
use Rattle.laws.proofs.Answered.{refused_exactly}
use Rattle.laws_sound.specs.Sound.{AllOnFit, AllSix}
use Rattle.laws_sound.specs.Reached.{Fit, Accepted, Admitted, StartDone, reached_by, step_at}
use Rattle.laws_sound.proofs.Test.{test_sound, sound_test}
use Rattle.laws_sound.proofs.Quiet.{Well}
use Rattle.laws_sound.proofs.Steps.{not-refused, step_well}
use Rattle.laws_sound.proofs.Lasting.{step_fit, start_fit}
use Rattle.laws_sound.proofs.Starting.{start_well}

-- ---- 1: the computed test is the six conditions
pub sound_is_tested : (s : State) → (is_sound s ≡ true → AllSix s) × (AllSix s → is_sound s ≡ true)
sound_is_tested s = (test_sound s, sound_test s)

-- ---- 2: start is sound, whatever the image
pub start-sound : (x : Image) → is_sound (started_state x) ≡ true
start-sound x = sound_test (started_state x) (record { five = (start_well x).sound; on = start_fit x })

-- ---- 3: every event, refused or done, leaves a sound state sound
pub step-sound : (room : ℕ) (s : State) (e : Event) → Fit s → Fit (step early room s e).state
step-sound room s e F =
    let S : AllSix s = test_sound s F.sound in
    let W : Well (get_or s.image 2 0) (step early room s e).state =
    step_well (get_or s.image 2 0) room s e (record { size = F.size; low = refl; sound = S.five }) in
    record { size = W.size; sound = sound_test _ (record { five = W.sound; on = step_fit room s e F.size S.on }) }

-- ---- 4: no state reached from start is refused

-- what the refusals 1, 2 and 3 ask
record Entered (s : State) : Type 0 where
  pub well : Well (get_or s.image 2 0) s
  pub on : AllOnFit s
  pub paged : eqb (field (get_or s.image 2 0) 7 1) 1 ≡ false

pub is_done_lem : {a : Answer} → a ≡ Done → is_done a ≡ true
unfolding is_done
is_done_lem e = ap is_done e

enters : (s : State) → Accepted s → Entered s
unfolding entry_refusals image_refusals wrong_length is_flat get is_done
enters s e =
    let r₁ = not-refused _ _ refl (is_done_lem e) in
    let r₂ = not-refused _ _ refl r₁.1 in
    let r₃ = not-refused _ _ refl r₂.1 in
    let S : AllSix s = test_sound s (not-false _ r₃.0) in
    record {
      well = record { size = eqb-true _ _ (not-false _ r₁.0); low = refl; sound = S.five };
      on = S.on;
      paged = r₂.0;
    }

accepted : (two : ℕ) (s : State) → Well two s → AllOnFit s → eqb (field two 7 1) 1 ≡ false → Accepted s
unfolding entry_refusals image_refusals wrong_length is_flat get first_of pick
accepted two s W O f = rw (W.low, f, W.size, sound_test s (record { five = W.sound; on = O }))

-- a start that is done leaves what start makes of the image ..
pub start_leaves : (x : Image) → StartDone x → (start_outcome x).state ≡ started_state x
unfolding start_outcome start_outcome_by
start_leaves x d = pick_true _ _ (is_done_lem d)

paged-start : (x : Image) → StartDone x → eqb (field (get_or x 2 0) 7 1) 1 ≡ false
unfolding start_outcome start_outcome_by start_refusals image_refusals is_flat get is_done
paged-start x d = (not-refused _ _ refl (not-refused _ _ refl (is_done_lem d)).1).0

-- .. and that is accepted
pub start-accepted : (x : Image) → StartDone x → Accepted (started_state x)
start-accepted x d = accepted (get_or x 2 0) (started_state x) (start_well x) (start_fit x) (paged-start x d)

-- so is a state that an accepted one leads to
pub still_accepted : (room : ℕ) (s : State) (e : Event) → Accepted s → Accepted (step early room s e).state
still_accepted room s e a = let E : Entered s = enters s a in
    accepted (get_or s.image 2 0) _ (step_well (get_or s.image 2 0) room s e E.well) (step_fit room s e E.well.size E.on) E.paged

-- a call on an accepted state is a step
pub call_is_step : (s : State) (c : Called) → Accepted s → outcome_at s c ≡ step_at s c
unfolding call_outcome call_outcome_by
call_is_step s c a = pick_true _ _ (is_done_lem a)

pub call-accepted : (s : State) (c : Called) → Accepted s → Accepted (outcome_at s c).state
unfolding step_outcome
call-accepted s c a = rw (call_is_step s c a) (still_accepted (length c.buffer) s c.event a)

pub calls-accepted : (s : State) (cs : List Called) → Accepted s → Accepted (state_after s cs)
unfolding state_after
calls-accepted s [] a = a
calls-accepted s (c ∷ cs) a = calls-accepted (outcome_at s c).state cs (call-accepted s c a)

-- after a start that is done and any calls, each with any event and any buffer
pub never_refused : (x : Image) → StartDone x → (cs : List Called) → Accepted (reached_by x cs)
never_refused x d cs = calls-accepted (start_outcome x).state cs (rw (start_leaves x d) (start-accepted x d))

-- in every state reached so a flag that is on is 1, whatever was read
pub on_is_shown : (x : Image) → StartDone x → (cs : List Called) (l k : ℕ) → l < lane_count → k < lasting_count
    → has (on_at (reached_by x cs).working l) k ≡ true → get (reached_by x cs).image (flag_at (lasting_flag k) l) ≡ 1
on_is_shown x d cs l k b h e = ((enters (reached_by x cs) (never_refused x d cs)).on l b).shows k h e

-- what is asked of an accepted state is answered none of 1, 2 and 3
accepted_admitted : (q : Asked) → Accepted (given_state q) → is_unsound q ≡ false → Admitted (outcome_of q).answer
unfolding holds entry_refusals image_refusals is_done
accepted_admitted q a u =
    let r₁ = not-refused _ _ refl (is_done_lem a) in
    let r₂ = not-refused _ _ refl r₁.1 in
    record {
      sized = λ e. clash ((refused_exactly q 0 (omega arith)).0 e).holds r₁.0;
      paged = λ e. clash ((refused_exactly q 1 (omega arith)).0 e).holds r₂.0;
      sound = λ e. clash ((refused_exactly q 3 (omega arith)).0 e).holds u;
    }

accepted-sound : (s : State) → Accepted s → is_sound s ≡ true
accepted-sound s a = let E : Entered s = enters s a in sound_test s (record { five = E.well.sound; on = E.on })

module _ (x : Image) (d : StartDone x) (cs : List Called) where
  -- no further call is answered 1, 2 or 3 ..
  pub never_answered : (c : Called) → Admitted (outcome_at (reached_by x cs) c).answer
  unfolding outcome_of given_state is_unsound
  never_answered c =
      let a : Accepted (reached_by x cs) = never_refused x d cs in
      accepted_admitted (call (reached_by x cs) c.buffer c.event) a (rw (accepted-sound (reached_by x cs) a))

  -- .. nor is a list of events
  pub never_answered_list : (answers : List ℕ) (es : List Event) → Admitted (list_outcome (reached_by x cs) answers es).answer
  unfolding outcome_of given_state is_unsound
  never_answered_list answers es =
      let a : Accepted (reached_by x cs) = never_refused x d cs in
      accepted_admitted (list (reached_by x cs) answers es) a (rw (accepted-sound (reached_by x cs) a))
