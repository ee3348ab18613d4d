-- What a public call leaves, all of it, and the one form of contract over it (01 "How tightly each answer is held").
use Rattle.std.specs.Prelude.{List, [], ◌++◌, map, length, drop}
use Rattle.bits.specs.Choice.{pick}
use Rattle.bits.specs.Sets.{LaneSet}
use Rattle.model.specs.Numbers.{Bytes, Count}
use Rattle.model.specs.Map.{Image}
use Rattle.model.specs.Answers.{number, is_done}
use Rattle.model.specs.Records.{idle_working}
use Rattle.model.specs.State.{State, state_with}
use Rattle.model.specs.Work.{early}
use Rattle.model.specs.Access.{read_limit}
use Rattle.model.specs.Start.{started_state}
use Rattle.model.specs.Refusals.{first_of, start_refusals, entry_refusals, list_refusals}
use Rattle.model.specs.Step.{Stepped, step, run, ending}
use Rattle.model.specs.declared.answer.Answer.{Answer}
use Rattle.model.specs.declared.event.Event.{Event}

-- the answer, every image byte, every lane record, every buffer byte, the lanes to be commissioned
pub record Outcome : Type 0 where
  pub answer : Answer
  pub state : State
  pub buffer : Bytes
  pub mask : LaneSet

-- bytes laid over the front of a buffer, the rest of it untouched
unfoldable pub laid_over : Bytes → Bytes → Bytes
laid_over bytes buffer = bytes ++ drop (length bytes) buffer

-- a refusal changes nothing and commissions nothing
unfoldable pub unchanged_outcome : Answer → State → Bytes → Outcome
unchanged_outcome a s buffer = record { answer = a; state = s; buffer = buffer; mask = 0 }

-- ---- start: a refused one leaves the image, with all lanes idle

unfoldable pub start_outcome_by : Answer → Image → Outcome
start_outcome_by a x = record { answer = a; state = pick (is_done a) (started_state x) (state_with x idle_working); buffer = []; mask = 0 }

unfoldable pub start_outcome : Image → Outcome
start_outcome x = start_outcome_by (first_of (start_refusals x)) x

-- ---- a call: the refusals 1, 2 and 3, then the step

unfoldable pub step_outcome : Stepped → Bytes → Outcome
step_outcome o buffer = record { answer = o.answer; state = o.state; buffer = laid_over o.bytes buffer; mask = o.mask }

unfoldable pub call_outcome_by : Answer → State → Bytes → Event → Outcome
call_outcome_by a s buffer e = pick (is_done a) (step_outcome (step early (length buffer) s e) buffer) (unchanged_outcome a s buffer)

unfoldable pub call_outcome : State → Bytes → Event → Outcome
call_outcome s buffer e = call_outcome_by (first_of (entry_refusals s)) s buffer e

-- ---- a list of events: the refusals 1, 2, 3 and 5 once, then every step; a read of it has room for any count

abbrev pub list_room : Count
list_room = read_limit

unfoldable pub numbers_of : List Stepped → Bytes
numbers_of os = map (λ o. number o.answer) os

unfoldable pub list_outcome_by : Answer → State → Bytes → List Event → Outcome
list_outcome_by a s answers es =
    pick (is_done a)
    (record { answer = a; state = ending early list_room s es; buffer = laid_over (numbers_of (run early list_room s es)) answers; mask = 0 })
    (unchanged_outcome a s answers)

unfoldable pub list_outcome : State → Bytes → List Event → Outcome
list_outcome s answers es = list_outcome_by (first_of (list_refusals (length answers) s (length es))) s answers es
