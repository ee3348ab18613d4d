-- The records of a night file from one of them on: the state, and the text, after some of them.
use Rattle.std.specs.Prelude.{ℕ, ◌+◌, ◌-◌, ◌≡◌, List}
use Rattle.bits.specs.Loop.{tab}
use Rattle.model.specs.Map.{Image}
use Rattle.model.specs.State.{State, state_with}
use Rattle.model.specs.Work.{early}
use Rattle.model.specs.Step.{run, ending}
use Rattle.model.specs.Outcome.{list_room}
use Rattle.model.specs.File.{edition_of, record_in, event_of}
use Rattle.model.specs.Night.{lines_from}
use Rattle.model.specs.declared.event.Event.{Event}
use Rattle.night_text.specs.Buffer.{Puts}
use Rattle.night_runs.specs.declared.FileCome.{FileCome}

-- the event of record k of a file
abbrev pub event_in : List ℕ → ℕ → Event
event_in file k = event_of (edition_of file) (record_in file k)

-- the events of n records from a first on
unfoldable pub file_events_from : List ℕ → ℕ → ℕ → List Event
file_events_from file first n = tab n (λ i. event_in file (first + i))

-- the state after these, and their text
unfoldable pub file_state_from : State → List ℕ → ℕ → ℕ → State
file_state_from s file first n = ending early list_room s (file_events_from file first n)

unfoldable pub file_text_from : State → List ℕ → ℕ → ℕ → List ℕ
file_text_from s file first n = lines_from first (run early list_room s (file_events_from file first n))

-- what a run leaves: the state after the records played, and their text
pub record FileRan (s : State) (file : List ℕ) (first : ℕ) (before after : List ℕ) (image : Image) (r : FileCome) : Type 0 where
  pub state : state_with image r.reached.working ≡ file_state_from s file first (r.next - first)
  pub text : Puts 0 (file_text_from s file first (r.next - first)) before after r.reached.at
