-- What is promised of the states that a night in pieces steps from.
use Rattle.std.specs.Prelude.{◌≡◌, List, length}
use Rattle.model.specs.Numbers.{Count}
use Rattle.model.specs.Map.{Image}
use Rattle.model.specs.State.{State}
use Rattle.model.specs.Work.{early}
use Rattle.model.specs.Start.{started_state}
use Rattle.model.specs.Refusals.{first_of, start_refusals}
use Rattle.model.specs.Step.{ending}
use Rattle.model.specs.Outcome.{list_room}
use Rattle.model.specs.declared.answer.Answer.TheVariants.{Done}
use Rattle.model.specs.declared.event.Event.{Event}
use Rattle.laws_sound.specs.Reached.{Accepted}

-- so many of the model's steps lead to the state from the start of an image that start takes, and refusals 1, 2 and 3 let it pass
pub record Reached (s : State) (steps : Count) : Type 0 where
  pub image : Image
  pub taken : first_of (start_refusals image) ≡ Done
  pub events : List Event
  pub count : length events ≡ steps
  pub state : s ≡ ending early list_room (started_state image) events
  pub accepted : Accepted s
