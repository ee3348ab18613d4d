-- What the promises speak of: states that are not refused, those that a start and calls after it reach, and calls that ask for 1, 2 and 3 no more.
use Rattle.std.specs.Prelude.{◌≡◌, true, List, [], ◌∷◌, map, ◌≢◌, ℕ, ◌≤◌, length}
use Rattle.model.specs.Map.{Image, image_length}
use Rattle.model.specs.Answers.{number}
use Rattle.model.specs.State.{State}
use Rattle.model.specs.Work.{early}
use Rattle.model.specs.Sound.{is_sound}
use Rattle.model.specs.Refusals.{first_of, entry_refusals}
use Rattle.model.specs.Step.{step}
use Rattle.model.specs.Outcome.{Outcome, start_outcome, step_outcome, list_room}
use Rattle.model.specs.declared.answer.Answer.{Answer}
use Rattle.model.specs.declared.answer.Answer.TheVariants.{Done, WrongLength, FlatMemory, Unsound}
use Rattle.model.specs.declared.event.Event.{Event}
use Rattle.laws.specs.Calls.{Called, state_after}

-- a sound state of the right length
pub record Fit (s : State) : Type 0 where
  pub size : length s.image ≡ image_length
  pub sound : is_sound s ≡ true

-- a state that refusals 1, 2 and 3 let pass
abbrev pub Accepted : State → Type 0
Accepted s = first_of (entry_refusals s) ≡ Done

-- an answer that is none of 1, 2 and 3
pub record Admitted (a : Answer) : Type 0 where
  pub sized : a ≢ WrongLength
  pub paged : a ≢ FlatMemory
  pub sound : a ≢ Unsound

-- ---- from start on

-- start of the image is done
abbrev pub StartDone : Image → Type 0
StartDone x = (start_outcome x).answer ≡ Done

-- the state that start and calls after it leave
abbrev pub reached_by : Image → List Called → State
reached_by x cs = state_after (start_outcome x).state cs

-- ---- calls one after the other, by what each leaves

-- what they leave
unfoldable pub along : (State → Called → Outcome) → State → List Called → List Outcome
along f s [] = []
along f s (c ∷ cs) = f s c ∷ along f (f s c).state cs

-- the state after them
unfoldable pub through : (State → Called → Outcome) → State → List Called → State
through f s [] = s
through f s (c ∷ cs) = through f (f s c).state cs

-- a call that asks for 1, 2 and 3 no more: the step, with the room of its buffer
abbrev pub step_at : State → Called → Outcome
step_at s c = step_outcome (step early (length c.buffer) s c.event) c.buffer

-- ---- calls and lists of events

-- the events of calls
abbrev pub events_of : List Called → List Event
events_of cs = map (λ c. c.event) cs

-- the answers of calls, by number
abbrev pub answers_of : List Outcome → List ℕ
answers_of os = map (λ o. number o.answer) os

-- every call is lent a buffer with room for any read
pub data Roomy : List Called → Type 0 where
  none : Roomy []
  one : {c : Called} {cs : List Called} → list_room ≤ length c.buffer → Roomy cs → Roomy (c ∷ cs)
