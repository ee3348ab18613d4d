-- THE PROMISES about files: a file prints what public calls of its records give, one after the other, and the answers that the list call gives for them.
use Rattle.std.specs.Prelude.{◌≡◌, List, [], ◌∷◌, ◌++◌, map, ℕ, suc, ◌≤◌, length, take, drop, Ok}
use Rattle.model.specs.Answers.{number}
use Rattle.model.specs.State.{State}
use Rattle.model.specs.Step.{Stepped}
use Rattle.model.specs.Outcome.{Outcome, start_outcome, list_outcome}
use Rattle.model.specs.File.{record_count, image_in, events_in, file_check}
use Rattle.model.specs.Text.{line}
use Rattle.model.specs.Night.{night_of, printed_text}
use Rattle.model.specs.declared.answer.Answer.TheVariants.{Done}
use Rattle.laws.specs.Reading.{given_by}
use Rattle.laws.specs.Calls.{Called, outcome_at}
use Rattle.laws_sound.specs.Reached.{events_of, Roomy}

-- a file that is replayed: the check of it finds nothing to refuse
abbrev pub Replayed : List ℕ → Type 0
Replayed file = file_check file ≡ Ok (record_count file)

-- ---- calls

-- calls of a file's records, each lent a buffer with room for any read
pub record CallsOf (file : List ℕ) (cs : List Called) : Type 0 where
  pub events : events_of cs ≡ events_in file
  pub roomy : Roomy cs

-- the lines of calls from an index on: the answer's number, and the bytes that the call gave
unfoldable pub lines_of : ℕ → State → List Called → List ℕ
lines_of index s [] = []
lines_of index s (c ∷ cs) =
    line index (number (outcome_at s c).answer) (given_by c.event.call (outcome_at s c)) ++ lines_of (suc index) (outcome_at s c).state cs

-- ---- the list call

-- lines from an index on: their answers' numbers, and the bytes that each shows
unfoldable pub lines_with : ℕ → List ℕ → List (List ℕ) → List ℕ
lines_with index [] shown = []
lines_with index (a ∷ answers) [] = []
lines_with index (a ∷ answers) (bytes ∷ shown) = line index a bytes ++ lines_with (suc index) answers shown

-- what the reads of a night give
unfoldable pub shown_in : List Stepped → List (List ℕ)
shown_in os = map (λ o. o.bytes) os

-- the answer buffer has room for every record
abbrev pub HasRoom : List ℕ → List ℕ → Type 0
HasRoom file answers = record_count file ≤ length answers

-- the list call on a file's records, after start of the file's image
abbrev pub list_call : List ℕ → List ℕ → Outcome
list_call file answers = list_outcome (start_outcome (image_in file)).state answers (events_in file)

-- it is not refused; its answers, one for each record, are those of the printed lines; the rest of the buffer is as it was
pub record SaySame (file answers : List ℕ) : Type 0 where
  pub taken : (list_call file answers).answer ≡ Done
  pub same : printed_text file ≡ lines_with 0 (take (record_count file) (list_call file answers).buffer) (shown_in (night_of file))
  pub rest : drop (record_count file) (list_call file answers).buffer ≡ drop (record_count file) answers
