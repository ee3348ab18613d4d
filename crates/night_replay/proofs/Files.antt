-- Laws of what the check of a file finds: what is printed. Assumes nothing.
use Rattle.std.proofs.Common.{Err, Ok}
use mathlib.Core.Path.{◌≡◌, sym, ap}
use mathlib.Core.List.{List, []}
use Prim.Native.Nat.{ℕ, ◌<◌}
use lib.ListN.{length, get_or}
use Rattle.bits.proofs.Loops.{tab_ext}
use Rattle.model.specs.Work.{early}
use Rattle.model.specs.Step.{run}
use Rattle.model.specs.Outcome.{list_room}
use Rattle.model.specs.Answers.{number}
use Rattle.model.specs.Start.{started_state}
use Rattle.model.specs.Records.{idle_working}
use Rattle.model.specs.State.{state_with}
use Rattle.model.specs.File.{Edition, edition_of, record_count, record_in, event_of, image_in, events_in, file_check}
use Rattle.model.specs.Text.{bad_line}
use Rattle.model.specs.Night.{lines_from, night_of, printed_text_by, printed_up_to, printed_text}
use Rattle.model.specs.declared.answer.Answer.{Answer}
use Rattle.night_play.specs.Playing.{text_after}

-- what is printed, by what the check found
module _ (file : List ℕ) where
  pub prints-refused : (a : Answer) → file_check file ≡ Err a → printed_text file ≡ bad_line (number a)
  unfolding printed_up_to printed_text_by
  prints-refused a e = rw e

  -- .. by any rows that are the records of the file
  pub prints-night : (count : ℕ) (row : Edition) (records : List (List ℕ)) → file_check file ≡ Ok count
      → row ≡ edition_of file → length records ≡ record_count file → ((k : ℕ) → k < length records → get_or records k [] ≡ record_in file k)
      → printed_text file ≡ text_after (state_with (started_state (image_in file)).image idle_working) row records (length records)
  unfolding printed_up_to printed_text_by night_of events_in text_after started_state
  prints-night count row records e named counted each =
      rw (e, named, ← counted)
      (ap (λ es. lines_from 0 (run early list_room (state_with (started_state (image_in file)).image idle_working) es))
      (tab_ext (length records) _ _ (λ k h. ap (event_of (edition_of file)) (sym (each k h)))))
