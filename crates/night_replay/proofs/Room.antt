-- The room that a file asks for holds all that is printed for it. Assumes nothing.
use Rattle.std.proofs.Common.{Err, Ok, Result}
use mathlib.Core.Path.{◌≡◌, refl, sym, ap, ◌∙◌}
use mathlib.Core.List.{List, []}
use Prim.Native.Nat.{ℕ, zero, suc, ◌*◌, ◌≤◌}
use native.Mathlib.Numerals.{add-one}
use native.Mathlib.Omega.{arith}
use lib.ListN.{length, length-append}
use Rattle.night_text.specs.Buffer.{line_room}
use Rattle.bits.specs.Loop.{tab}
use Rattle.bits.proofs.Loops.{length-tab, tab_at}
use Rattle.model.specs.Answers.{number}
use Rattle.model.specs.State.{State}
use Rattle.model.specs.Step.{run}
use Rattle.model.specs.File.{Edition, edition_of, record_in, file_check, record_limit}
use Rattle.model.specs.Text.{line}
use Rattle.model.specs.Night.{lines_from, printed_text}
use Rattle.model.specs.declared.answer.Answer.{Answer}
use Rattle.night_text.proofs.Lines.{bad_most, number_lt}
use Rattle.night_play.specs.Playing.{text_after}
use Rattle.night_play.proofs.Records.{step_of, text-next, night-line-fits}
use Rattle.night_runs.proofs.Good.{good_file_lem}
use Rattle.night_replay.specs.Replay.{room_for}
use Rattle.night_replay.proofs.Files.{prints-refused, prints-night}

-- 391 bytes a record
text-fits : (s : State) (row : Edition) (records : List (List ℕ)) (k : ℕ) → k ≤ record_limit → length (text_after s row records k) ≤ line_room 4 * k
unfolding text_after lines_from run tab
text-fits s row records zero h = omega arith
text-fits s row records (suc k) h =
    let o = step_of s row records k in
    let e : length (text_after s row records (suc k)) ≡ _ =
    ap length (rw add-one at (text-next s row records k)) ∙ length-append (text_after s row records k) (line k (number o.answer) o.bytes) in
    omega (arith, text-fits s row records k (omega arith), night-line-fits s row records k (omega arith))

-- the records of a good file
night-fits : (file : List ℕ) (count : ℕ) → file_check file ≡ Ok count → length (printed_text file) ≤ line_room 4 * count
night-fits file count e =
    let g = good_file_lem file count e in
    let records = tab count (record_in file) in
    let n : length records ≡ count = length-tab count (record_in file) in
    rw (prints-night file count (edition_of file) records e refl (n ∙ sym g.counted) (λ k h. tab_at count (record_in file) k [] (omega arith)), n)
    (text-fits _ (edition_of file) records count g.few)

found_fits : (file : List ℕ) (found : Result ℕ Answer) → file_check file ≡ found → length (printed_text file) ≤ room_for found
unfolding room_for
found_fits file (Err a) e = rw (prints-refused file a e) (bad_most (number a) (number_lt a))
found_fits file (Ok count) e = night-fits file count e

-- THE ROOM IS ENOUGH, whatever bytes the file holds
pub printed-fits : (file : List ℕ) → length (printed_text file) ≤ room_for (file_check file)
printed-fits file = found_fits file (file_check file) refl
