-- Records from one of them on: the state, and the text, after some of them.
use Rattle.std.specs.Prelude.{ℕ, ◌+◌, ◌-◌, ◌≡◌, List}
use Rattle.bits.specs.Loop.{tab}
use Rattle.model.specs.Map.{Image}
use Rattle.model.specs.State.{State, state_with}
use Rattle.model.specs.Work.{early}
use Rattle.model.specs.Step.{run, ending}
use Rattle.model.specs.Outcome.{list_room}
use Rattle.model.specs.Night.{lines_from}
use Rattle.model.specs.File.{Edition}
use Rattle.model.specs.declared.event.Event.{Event}
use Rattle.night_text.specs.Buffer.{Puts}
use Rattle.night_play.specs.Playing.{event_in}
use Rattle.night_runs.specs.declared.Come.{Come}

-- the events of n records from a first on
unfoldable pub events_from : Edition → List (List ℕ) → ℕ → ℕ → List Event
events_from row records first n = tab n (λ i. event_in row records (first + i))

-- the state after these, and their text
unfoldable pub state_from : State → Edition → List (List ℕ) → ℕ → ℕ → State
state_from s row records first n = ending early list_room s (events_from row records first n)

unfoldable pub text_from : State → Edition → List (List ℕ) → ℕ → ℕ → List ℕ
text_from s row records first n = lines_from first (run early list_room s (events_from row records first n))

-- what a run leaves: the state after the records played, and their text
pub record Ran (s : State) (row : Edition) (records : List (List ℕ)) (first : ℕ) (before after : List ℕ) (image : Image) (r : Come) : Type 0 where
  pub state : state_with image r.reached.working ≡ state_from s row records first (r.next - first)
  pub text : Puts 0 (text_from s row records first (r.next - first)) before after r.reached.at
