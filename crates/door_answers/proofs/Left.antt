-- What a start that is done and a call on a strange state leave, said out. Assumes nothing.
use mathlib.Core.Path.{◌≡◌, refl, ap, ◌∙◌}
use mathlib.Core.Bool.{true, false}
use mathlib.Core.List.{List}
use Prim.Native.Nat.{ℕ}
use lib.ListN.{length}
use Rattle.bits.proofs.Tests.{pick_true, pick-false, pick-has}
use Rattle.model.specs.Answers.{is_done}
use Rattle.model.specs.Map.{Image}
use Rattle.model.specs.Records.{idle_working}
use Rattle.model.specs.Start.{started_state}
use Rattle.model.specs.State.{State}
use Rattle.model.specs.Refusals.{first_of}
use Rattle.model.specs.Outcome.{laid_over, start_outcome_by, start_outcome}
use Rattle.model.specs.declared.event.Event.{Event}
use Rattle.packing.specs.Packing.{packed, is_packing}
use Rattle.door_answers.specs.Door.{Left, returned_for, left_by, left_refused, door_start_refusals, door_start_by, door_start, strange_refusals, door_outcome}

-- a start that is done leaves an idle working state in the front of the buffer, and what lies behind it
pub start-writes : (x : Image) (state : List ℕ) → is_done (first_of (door_start_refusals x (length state))) ≡ true
    → (door_start x state).state ≡ laid_over (packed idle_working) state
unfolding door_start door_start_by left_by start_outcome start_outcome_by started_state
start-writes x state d =
    ap (λ (o : Left). o.state) (pick_true _ _ d)
    ∙ pick-has (λ (s : State). laid_over (packed s.working) state ≡ laid_over (packed idle_working) state) _ (λ b. refl) (λ b. refl)

-- a call on bytes that are no working state's leaves every byte that it was lent as it was
pub strange_left : (x : Image) (state buffer : List ℕ) (e : Event) → is_packing state ≡ false
    → door_outcome x state buffer e ≡ record { returned = returned_for (first_of (strange_refusals x)) 0; image = x; state = state; buffer = buffer }
unfolding door_outcome left_refused
strange_left x state buffer e d = pick-false _ _ d
