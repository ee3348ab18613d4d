-- A night from its file to the text that it prints (01 "The night file").
use Rattle.std.specs.Prelude.{ℕ, suc, List, [], ◌∷◌, ◌++◌, Err, Ok, Result}
use Rattle.model.specs.Numbers.{Bytes, Count, RecordIndex}
use Rattle.model.specs.Answers.{number}
use Rattle.model.specs.Work.{early}
use Rattle.model.specs.Start.{started_state}
use Rattle.model.specs.Step.{Stepped, run}
use Rattle.model.specs.Outcome.{list_room}
use Rattle.model.specs.File.{record_limit, image_in, events_in, file_check_up_to}
use Rattle.model.specs.Text.{line, bad_line}
use Rattle.model.specs.declared.answer.Answer.{Answer}

-- the lines of steps whose first has an index
unfoldable pub lines_from : RecordIndex → List Stepped → Bytes
lines_from index [] = []
lines_from index (o ∷ os) = line index (number o.answer) o.bytes ++ lines_from (suc index) os

-- the night that a file holds, replayed from start
unfoldable pub night_of : Bytes → List Stepped
night_of file = run early list_room (started_state (image_in file)) (events_in file)

unfoldable pub printed_text_by : Result ℕ Answer → Bytes → Bytes
printed_text_by (Err a) file = bad_line (number a)
printed_text_by (Ok count) file = lines_from 0 (night_of file)

-- all that is printed for a file that may count so many records
unfoldable pub printed_up_to : Count → Bytes → Bytes
printed_up_to limit file = printed_text_by (file_check_up_to limit file) file

-- all that is printed for a file
abbrev pub printed_text : Bytes → Bytes
printed_text file = printed_up_to record_limit file
