-- What a call leaves once the refusals of its entry are known. Assumes nothing.
use mathlib.Core.Path.{◌≡◌, refl, sym, ap, ◌∙◌}
use mathlib.Core.Bool.{true, false}
use mathlib.Core.List.{List, [], ◌∷◌, ◌++◌, append-nil}
use Prim.Native.Nat.{ℕ}
use native.Mathlib.Omega.{arith}
use lib.ListN.{length, take, drop}
use lib.Seq.{take_all}
use Rattle.bits.specs.Choice.{pick}
use Rattle.bits.proofs.Tests.{pick_true, pick-false}
use Rattle.std.proofs.lemmas.List.{drop_all}
use Rattle.model.specs.Map.{Image, image_length}
use Rattle.model.specs.Answers.{is_done}
use Rattle.model.specs.Records.{idle_working}
use Rattle.model.specs.State.{State}
use Rattle.model.specs.Work.{early}
use Rattle.model.specs.Start.{started_state}
use Rattle.model.specs.Refusals.{first_of, start_refusals, entry_refusals}
use Rattle.model.specs.Step.{event_effect, step}
use Rattle.contracts.specs.Forms.{IsOutcome}
use Rattle.model.specs.Outcome.{unchanged_outcome, start_outcome_by, start_outcome, step_outcome, call_outcome_by, call_outcome}
use Rattle.model.specs.declared.answer.Answer.{Answer}
use Rattle.contracts.specs.declared.Returned.{Returned}
use Rattle.model.specs.declared.event.Call.{Call}
use Rattle.model.specs.declared.event.Event.{Event}
use Rattle.contracts.specs.Asked.{asked}

-- ---- an image cut behind its last byte: its front is all of it, and nothing is behind
pub front_whole : (x y : Image) → length x ≡ image_length → y ≡ take image_length x → y ≡ x
front_whole x y h e = e ∙ take_all image_length x (omega (arith, h))

pub none_behind : (x y rest : Image) → length x ≡ image_length → rest ≡ drop image_length x → y ≡ y ++ rest
none_behind x y rest h e = sym (ap (λ t. y ++ t) (e ∙ drop_all image_length x (omega (arith, h))) ∙ append-nil y)

-- ---- start
module _ (x : Image) where
  -- a refused one leaves the image, with all lanes idle
  pub start-refused : (a : Answer) (r : Returned) → a ≡ first_of (start_refusals x) → is_done (first_of (start_refusals x)) ≡ false
      → r ≡ record { answer = a; mask = 0; working = idle_working } → IsOutcome (start_outcome x) r x []
  unfolding start_outcome start_outcome_by pick
  start-refused a r p q h =
      rw q
      (record { answer = ap (λ t. t.answer) h ∙ p; image = refl; working = ap (λ t. t.working) h; buffer = refl; mask = ap (λ t. t.mask) h })

  pub start_done : (a : Answer) (r : Returned) (y : Image) → a ≡ first_of (start_refusals x) → is_done (first_of (start_refusals x)) ≡ true
      → y ≡ (started_state x).image → r ≡ record { answer = a; mask = 0; working = idle_working } → IsOutcome (start_outcome x) r y []
  unfolding start_outcome start_outcome_by started_state pick
  start_done a r y p q hy h =
      rw q
      (record { answer = ap (λ t. t.answer) h ∙ p; image = hy; working = ap (λ t. t.working) h; buffer = refl; mask = ap (λ t. t.mask) h })

-- ---- every other call
module _ (s : State) (buffer : List ℕ) (e : Event) (r : Returned) where
  -- a call that is refused at its entry leaves everything as it was
  pub call-refused : (a : Answer) → a ≡ first_of (entry_refusals s) → is_done (first_of (entry_refusals s)) ≡ false
      → r ≡ record { answer = a; mask = 0; working = s.working } → IsOutcome (call_outcome s buffer e) r s.image buffer
  unfolding call_outcome call_outcome_by unchanged_outcome
  call-refused a p q h =
      rw (pick-false (step_outcome (step early (length buffer) s e) buffer) (unchanged_outcome (first_of (entry_refusals s)) s buffer) q)
      (record { answer = ap (λ t. t.answer) h ∙ p; image = refl; working = ap (λ t. t.working) h; buffer = refl; mask = ap (λ t. t.mask) h })

  -- any other is its step
  pub call_step : (y : Image) (b : List ℕ) → is_done (first_of (entry_refusals s)) ≡ true
      → IsOutcome (step_outcome (step early (length buffer) s e) buffer) r y b → IsOutcome (call_outcome s buffer e) r y b
  unfolding call_outcome call_outcome_by
  call_step y b q h = rw (pick_true (step_outcome (step early (length buffer) s e) buffer) (unchanged_outcome (first_of (entry_refusals s)) s buffer) q) h

  -- an empty buffer is left empty
  pub left_empty : (y : Image) (b : List ℕ) → length b ≡ 0 → IsOutcome (call_outcome s buffer e) r y b → IsOutcome (call_outcome s buffer e) r y []
  left_empty y [] n h = h
  left_empty y (x ∷ b) n h = absurd (omega arith)

-- an event that is no write needs no bytes
pub bytes-unused : (s : State) (buffer : List ℕ) (e : Event) (c : Call) (r : Returned) (y : Image) (b : List ℕ) → e.call ≡ c
    → event_effect early s e.bytes c ≡ event_effect early s [] c → IsOutcome (call_outcome s buffer e) r y b → IsOutcome (call_outcome s buffer (asked c)) r y b
unfolding call_outcome call_outcome_by step
bytes-unused s buffer e c r y b p q h = rw (p, q) at h
