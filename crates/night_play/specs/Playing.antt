-- Records played one after the other: the state, and the text, after the first of them.
use Rattle.std.specs.Prelude.{ℕ, List, [], get_or}
use Rattle.bits.specs.Loop.{tab}
use Rattle.model.specs.State.{State}
use Rattle.model.specs.Work.{early}
use Rattle.model.specs.Step.{run, ending}
use Rattle.model.specs.Outcome.{list_room}
use Rattle.model.specs.File.{Edition, event_of}
use Rattle.model.specs.Night.{lines_from}
use Rattle.model.specs.declared.event.Event.{Event}

-- the event of record k, in an edition
abbrev pub event_in : Edition → List (List ℕ) → ℕ → Event
event_in row records k = event_of row (get_or records k [])

-- the state after the first k records, and the text of these
unfoldable pub state_after : State → Edition → List (List ℕ) → ℕ → State
state_after s row records k = ending early list_room s (tab k (event_in row records))

unfoldable pub text_after : State → Edition → List (List ℕ) → ℕ → List ℕ
text_after s row records k = lines_from 0 (run early list_room s (tab k (event_in row records)))
