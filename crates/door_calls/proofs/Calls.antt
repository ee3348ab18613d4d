-- What a call of firmware leaves, once the call below it is known. Assumes nothing.
use mathlib.Core.Path.{◌≡◌, refl, ap, ap₂, ◌∙◌}
use mathlib.Core.Bool.{true, false}
use mathlib.Core.List.{List, [], ◌∷◌}
use Prim.Native.Nat.{ℕ}
use native.Mathlib.Omega.{arith}
use lib.ListN.{length}
use Rattle.bits.proofs.Tests.{pick_true, pick-false}
use Rattle.model.specs.Map.{Image}
use Rattle.model.specs.Answers.{is_done}
use Rattle.model.specs.State.{State, state_with}
use Rattle.model.specs.Work.{early}
use Rattle.model.specs.Step.{event_effect, step}
use Rattle.model.specs.Refusals.{first_of}
use Rattle.model.specs.Outcome.{Outcome, laid_over, start_outcome, call_outcome_by, call_outcome}
use Rattle.model.specs.declared.answer.Answer.{Answer}
use Rattle.model.specs.declared.event.Call.{Call}
use Rattle.model.specs.declared.event.Event.{Event}
use Rattle.contracts.specs.Asked.{asked}
use Rattle.contracts.specs.Forms.{IsOutcome}
use Rattle.contracts.specs.declared.Returned.{Returned}
use Rattle.packing.specs.Packing.{packed, unpacked, is_packing}
use Rattle.door_answers.specs.Door.{returned_for, left_by, left_refused, door_start_refusals, door_start_by, door_start, strange_refusals, door_outcome, IsLeft}

-- an outcome handed back through the state's buffer
pub handed : (o : Outcome) (state : List ℕ) (r : Returned) (n : ℕ) (y t b : List ℕ) → IsOutcome o r y b
    → n ≡ returned_for r.answer r.mask → t ≡ laid_over (packed r.working) state → IsLeft (left_by state o) n y t b
unfolding left_by
handed o state r n y t b h p q =
    record {
      returned = p ∙ ap₂ returned_for h.answer h.mask;
      image = h.image;
      state = q ∙ ap (λ w. laid_over (packed w) state) h.working;
      buffer = h.buffer;
    }

-- ---- start
module _ (x : Image) (state : List ℕ) where
  pub start-refused : (a : Answer) (n : ℕ) → a ≡ first_of (door_start_refusals x (length state)) → is_done (first_of (door_start_refusals x (length state))) ≡ false
      → n ≡ returned_for a 0 → IsLeft (door_start x state) n x state []
  unfolding door_start door_start_by left_refused
  start-refused a n e d p =
      rw (pick-false (left_by state (start_outcome x)) (left_refused (first_of (door_start_refusals x (length state))) x state []) d)
      (record { returned = p ∙ ap (λ b. returned_for b 0) e; image = refl; state = refl; buffer = refl })

  pub start_done : (n : ℕ) (y t : List ℕ) → is_done (first_of (door_start_refusals x (length state))) ≡ true
      → IsLeft (left_by state (start_outcome x)) n y t [] → IsLeft (door_start x state) n y t []
  unfolding door_start door_start_by
  start_done n y t d h = rw (pick_true (left_by state (start_outcome x)) (left_refused (first_of (door_start_refusals x (length state))) x state []) d) h

-- ---- any event
module _ (x : Image) (state buffer : List ℕ) (e : Event) where
  -- where the state's bytes are none nothing is changed
  pub call_strange : (a : Answer) (n : ℕ) → is_packing state ≡ false → a ≡ first_of (strange_refusals x) → n ≡ returned_for a 0
      → IsLeft (door_outcome x state buffer e) n x state buffer
  unfolding door_outcome left_refused
  call_strange a n d e' p =
      rw (pick-false (left_by state (call_outcome (state_with x (unpacked state)) buffer e)) (left_refused (first_of (strange_refusals x)) x state buffer) d)
      (record { returned = p ∙ ap (λ b. returned_for b 0) e'; image = refl; state = refl; buffer = refl })

  pub call_done : (n : ℕ) (y t b : List ℕ) → is_packing state ≡ true
      → IsLeft (left_by state (call_outcome (state_with x (unpacked state)) buffer e)) n y t b → IsLeft (door_outcome x state buffer e) n y t b
  unfolding door_outcome
  call_done n y t b d h =
      rw (pick_true (left_by state (call_outcome (state_with x (unpacked state)) buffer e)) (left_refused (first_of (strange_refusals x)) x state buffer) d) h

  -- an empty buffer is left empty
  pub left_empty : (n : ℕ) (y t b : List ℕ) → length b ≡ 0 → IsLeft (door_outcome x state buffer e) n y t b → IsLeft (door_outcome x state buffer e) n y t []
  left_empty n y t [] l h = h
  left_empty n y t (z ∷ b) l h = absurd (omega arith)

-- ---- events by other names

-- an event that is no write needs no bytes
bytes-unused : (s : State) (buffer : List ℕ) (e : Event) (c : Call) → e.call ≡ c → event_effect early s e.bytes c ≡ event_effect early s [] c
    → call_outcome s buffer e ≡ call_outcome s buffer (asked c)
unfolding call_outcome call_outcome_by step
bytes-unused s buffer e c p q = rw (p, q)

module _ (x : Image) (state buffer : List ℕ) (e : Event) (n : ℕ) (y t b : List ℕ) where
  -- a call whose outcome is another's leaves what that leaves
  pub left_same : (e' : Event) → ((s : State) → call_outcome s buffer e ≡ call_outcome s buffer e')
      → IsLeft (door_outcome x state buffer e) n y t b → IsLeft (door_outcome x state buffer e') n y t b
  unfolding door_outcome
  left_same e' same h = rw (same (state_with x (unpacked state))) at h

  pub left_asked : (c : Call) → e.call ≡ c → ((s : State) → event_effect early s e.bytes c ≡ event_effect early s [] c)
      → IsLeft (door_outcome x state buffer e) n y t b → IsLeft (door_outcome x state buffer (asked c)) n y t b
  left_asked c p q = left_same (asked c) (λ s. bytes-unused s buffer e c p (q s))
