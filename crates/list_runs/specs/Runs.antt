-- Where a list of events stands: at its start, by its admission, and after an event more.
use Rattle.std.specs.Prelude.{ℕ, ◌+◌, List, ltb, set}
use Rattle.bits.specs.Choice.{pick}
use Rattle.model.specs.Answers.{number, is_done}
use Rattle.model.specs.declared.answer.Answer.{Answer}
use Rattle.model.specs.declared.answer.Answer.TheVariants.{Done, ShortBuffer}
use Rattle.model.specs.declared.lane.Working.{Working}
use Rattle.list_runs.specs.declared.Run.{Run}

-- a list at its start, with a count of events to be done
abbrev pub start_run : Answer → ℕ → Working → Run
start_run a n w = record { left = record { answer = a; mask = 0; working = w }; at = 0; end = n }

abbrev pub refused_run : Answer → Working → Run
refused_run a w = start_run a 0 w

-- n events, by an answer and the room for their answers: all are to be done, or none
unfoldable pub admitted_run : Answer → ℕ → ℕ → Working → Run
admitted_run a room n w = pick (is_done a) (pick (ltb room n) (refused_run ShortBuffer w) (start_run Done n w)) (refused_run a w)

-- an event more is done, and left a working state
abbrev pub noted_run : Run → Working → Run
noted_run r w = record { left = record { answer = r.left.answer; mask = 0; working = w }; at = r.at + 1; end = r.end }

-- its answer goes to the place of its event
abbrev pub noted_answers : Run → Answer → List ℕ → List ℕ
noted_answers r a answers = set answers r.at (number a)
