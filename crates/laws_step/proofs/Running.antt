-- What holds after every event: lower 3.0 follows the flags, and after any calls from start 11h:215-216 are 0. Assumes nothing.
use mathlib.Core.Path.{◌≡◌, refl, ap, ◌∙◌}
use mathlib.Core.Bool.{false}
use mathlib.Core.List.{List, ◌∷◌}
use mathlib.Core.Logic.{◌↔◌, inl, inr}
use Prim.Native.Nat.{ℕ}
use native.Mathlib.Omega.{arith}
use lib.ListN.{length, get_or}
use Rattle.bits.specs.Choice.{both, either}
use Rattle.bits.specs.Place.{get}
use Rattle.bits.proofs.Tests.{split, clash}
use Rattle.model.specs.Map.{Image, image_length, interrupt_bit, command_status, range, in_ranges}
use Rattle.model.specs.Answers.{is_done}
use Rattle.model.specs.State.{State}
use Rattle.model.specs.Work.{early}
use Rattle.model.specs.Flags.{settled_image}
use Rattle.model.specs.Start.{reset_state}
use Rattle.model.specs.Step.{step, done_step, event_effect}
use Rattle.model.specs.Outcome.{start_outcome}
use Rattle.model.specs.declared.answer.Answer.TheVariants.{Done}
use Rattle.model.specs.declared.event.Event.{Event}
use Rattle.laws.specs.Calls.{Called, state_after}
use Rattle.laws.proofs.Unchanged.{done_is}
use Rattle.laws_step.specs.Told.{UnmaskedFlag, changed_ranges, Reserved, Settled}
use Rattle.laws_step.proofs.Settling.{settled_changes, settled_bit, settled_twice}
use Rattle.laws_step.proofs.Stepped.{done_step_lem, refused-step}
use Rattle.laws_step.proofs.Beginning.{start_settled, start_reserved, start-size}
use Rattle.laws_step.proofs.Keeping.{step_kept, event_keeps}
use Rattle.laws_step.proofs.Calling.{calls-from-start}

-- ---- one event

-- the image keeps its length
pub step-size : (room : ℕ) (s : State) (e : Event) → length s.image ≡ image_length → length (step early room s e).state.image ≡ image_length
unfolding reset_state
step-size room s e p = event_keeps (λ t. length t.image ≡ image_length) room s e p (start-size s.image) (λ n d. (step_kept room s e n).size ∙ p)

module _ (room : ℕ) (s : State) (e : Event) where
  -- after every event that is done, lower 3.0 is 0 exactly when an unmasked flag bit is 1
  pub interrupt_exactly : length s.image ≡ image_length → (step early room s e).answer ≡ Done
      → (get (step early room s e).state.image interrupt_bit ≡ 0) ↔ UnmaskedFlag (step early room s e).state.image
  unfolding done_step
  interrupt_exactly size d =
      let y = (event_effect early s e.bytes e.call).state.image in
      let k : length (settled_image y) ≡ image_length = (rw (done_step_lem room s e d) at (step-size room s e size)) in
      rw (done_step_lem room s e d) (settled_bit y (omega (arith, (settled_changes y).size)))

  -- an event that is done settles lower 3.0, and one that is refused leaves it settled
  pub step_settled : Settled s.image → Settled (step early room s e).state.image
  unfolding done_step is_done
  step_settled k = split (is_done (step early room s e).answer)
      (λ t. rw (done_step_lem room s e (done_is _ t)) (settled_twice _))
      (λ t. rw (refused-step room s e (λ d. clash (ap is_done d) t)) k)

-- ---- any calls after it

reserved_kept : (i : ℕ) → Reserved i → in_ranges (range command_status command_status ∷ changed_ranges) i ≡ false
unfolding in_ranges both either
reserved_kept i (inl e) = rw e refl
reserved_kept i (inr e) = rw e refl

-- they are 0
abbrev ReservedClear : State → Type 0
ReservedClear s = (i : ℕ) → Reserved i → get_or s.image i 0 ≡ 0

-- an event leaves them as they were, and a reset at 0
step_reserved : (room : ℕ) (s : State) (e : Event) → ReservedClear s → ReservedClear (step early room s e).state
unfolding reset_state
step_reserved room s e p = event_keeps ReservedClear room s e p (start_reserved s.image) (λ n d i r. (step_kept room s e n).others i (reserved_kept i r) ∙ p i r)

module _ (x : Image) (cs : List Called) (d : (start_outcome x).answer ≡ Done) where
  -- the image keeps its length
  pub run-size : length (state_after (start_outcome x).state cs).image ≡ image_length
  run-size = calls-from-start (λ s. length s.image ≡ image_length) step-size x cs d (start-size x)

  -- 11h:215-216 are 0
  pub run_reserved : (i : ℕ) → Reserved i → get_or (state_after (start_outcome x).state cs).image i 0 ≡ 0
  run_reserved = calls-from-start ReservedClear step_reserved x cs d (start_reserved x)

  -- lower 3.0 is settled, and so 0 exactly when an unmasked flag bit is 1
  pub run_settled : Settled (state_after (start_outcome x).state cs).image
  run_settled = calls-from-start (λ s. Settled s.image) (λ room s e p. step_settled room s e p) x cs d (start_settled x)

  pub run_interrupt : (get (state_after (start_outcome x).state cs).image interrupt_bit ≡ 0)
      ↔ UnmaskedFlag (state_after (start_outcome x).state cs).image
  run_interrupt = rw run_settled at (settled_bit (state_after (start_outcome x).state cs).image (omega (arith, run-size)))
