-- Any sequence of public calls after start, each with its own buffer: what one who calls the registers sees.
use Rattle.std.specs.Prelude.{List, [], ◌∷◌, ℕ}
use Rattle.model.specs.State.{State}
use Rattle.model.specs.Outcome.{Outcome, call_outcome}
use Rattle.model.specs.declared.event.Event.{Event}

-- a public call: its event, and the buffer that it is lent
pub record Called : Type 0 where
  pub event : Event
  pub buffer : List ℕ

-- the outcome of a call on a state
abbrev pub outcome_at : State → Called → Outcome
outcome_at s c = call_outcome s c.buffer c.event

-- the outcomes of calls, each on the state that the one before it left
unfoldable pub outcomes : State → List Called → List Outcome
outcomes s [] = []
outcomes s (c ∷ cs) = outcome_at s c ∷ outcomes (outcome_at s c).state cs

-- the state that they leave
unfoldable pub state_after : State → List Called → State
state_after s [] = s
state_after s (c ∷ cs) = state_after (outcome_at s c).state cs
