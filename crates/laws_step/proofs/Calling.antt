-- A public call is a step, or is refused with 1, 2 or 3 and changes nothing: so what every step keeps, any calls keep. Assumes nothing.
use mathlib.Core.Path.{◌≡◌}
use mathlib.Core.List.{List, [], ◌∷◌}
use Prim.Native.Nat.{ℕ}
use lib.ListN.{length}
use Rattle.bits.specs.Choice.{pick}
use Rattle.bits.proofs.Tests.{split}
use Rattle.model.specs.Map.{Image}
use Rattle.model.specs.Answers.{is_done}
use Rattle.model.specs.State.{State}
use Rattle.model.specs.Work.{early}
use Rattle.model.specs.Start.{started_state}
use Rattle.model.specs.Refusals.{first_of, entry_refusals}
use Rattle.model.specs.Step.{step}
use Rattle.model.specs.Outcome.{start_outcome_by, start_outcome, unchanged_outcome, step_outcome, call_outcome_by, call_outcome}
use Rattle.model.specs.declared.answer.Answer.TheVariants.{Done}
use Rattle.model.specs.declared.event.Event.{Event}
use Rattle.laws.specs.Calls.{Called, outcome_at, state_after}

-- a start that is done
start_done : (x : Image) → (start_outcome x).answer ≡ Done → (start_outcome x).state ≡ started_state x
unfolding start_outcome start_outcome_by is_done pick
start_done x d = rw (d, is_done, pick)

module _ (P : State → Type 0) (kept : (room : ℕ) (s : State) (e : Event) → P s → P (step early room s e).state) where
  call_keeps : (s : State) (c : Called) → P s → P (outcome_at s c).state
  unfolding call_outcome call_outcome_by step_outcome unchanged_outcome pick
  call_keeps s c p = split (is_done (first_of (entry_refusals s)))
      (λ d. rw (d, pick) (kept (length c.buffer) s c.event p))
      (λ d. rw (d, pick) p)

  calls_keep : (s : State) (cs : List Called) → P s → P (state_after s cs)
  unfolding state_after
  calls_keep s [] p = p
  calls_keep s (c ∷ cs) p = calls_keep (outcome_at s c).state cs (call_keeps s c p)

  -- what start leaves is kept by any calls after a start that is done
  pub calls-from-start : (x : Image) (cs : List Called) → (start_outcome x).answer ≡ Done → P (started_state x) → P (state_after (start_outcome x).state cs)
  calls-from-start x cs d p = calls_keep (start_outcome x).state cs (rw (start_done x d) p)
