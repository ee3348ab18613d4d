-- What `streamed` says of bytes, part by part: the header, the image, and one record after the other. Assumes nothing.
use mathlib.Core.Path.{◌≡◌}
use mathlib.Core.Bool.{Bool, true, false}
use mathlib.Core.List.{[], ◌++◌, map, append_assoc}
use Prim.Native.Nat.{suc, ◌-◌, ◌*◌, ◌≤◌, ◌<◌}
use native.Mathlib.Omega.{arith}
use lib.Dec.{eqb, leb}
use lib.ListN.{length, take, drop, length-drop}
use borrow.Author.Tests.{leb-true, eqb-true, le-leb, lt-leb, eq-eqb, ne_eqb}
use Rattle.bits.specs.Choice.{pick, both}
use Rattle.bits.proofs.Tests.{split, bool_eq, both_l, both_i, pick_true, pick-false}
use Rattle.model.specs.Numbers.{Bytes, Count, RecordIndex}
use Rattle.model.specs.Map.{Image}
use Rattle.model.specs.Answers.{number, is_done}
use Rattle.model.specs.State.{State}
use Rattle.model.specs.Work.{early}
use Rattle.model.specs.Start.{started_state}
use Rattle.model.specs.Refusals.{first_of, start_refusals}
use Rattle.model.specs.Step.{Stepped, step, run}
use Rattle.model.specs.Outcome.{list_room}
use Rattle.model.specs.File.{Edition, edition_of, records_offset, record_count, is_header, record_length, is_record, event_of, image_in}
use Rattle.model.specs.Text.{line, bad_line}
use Rattle.model.specs.Night.{lines_from}
use Rattle.model.specs.Stream.{count_limit, has_image, after_image, leading_records, good_records, good_lines, is_all, streamed_by, streamed}
use Rattle.model.specs.declared.answer.Answer.TheVariants.{Malformed}

-- ---- the records: from the next one on, the lines of the good ones, and a bad line unless they are all that was due

-- n records are due, and these bytes come
unfoldable pub records_text : Edition → RecordIndex → State → Count → Bytes → Bytes
records_text e next s n bytes =
    lines_from next (run early list_room s (map (event_of e) (leading_records e n bytes)))
    ++ pick (both (eqb (length (leading_records e n bytes)) n) (eqb (length bytes) (record_length * n))) [] (bad_line (number Malformed))

-- a good record comes first
unfoldable pub is_first_lem : Edition → Bytes → Bool
is_first_lem e bytes = both (leb record_length (length bytes)) (is_record e (take record_length bytes))

eqb_same : (a b c d : Count) → (a ≡ b → c ≡ d) → (c ≡ d → a ≡ b) → eqb a b ≡ eqb c d
eqb_same a b c d f g = bool_eq (eqb a b) (eqb c d) (λ e. eq-eqb c d (f (eqb-true a b e))) (λ e. eq-eqb a b (g (eqb-true c d e)))

module _ (e : Edition) (next : RecordIndex) (s : State) (n : Count) (bytes : Bytes) where
  pub text_bad : is_first_lem e bytes ≡ false → records_text e next s (suc n) bytes ≡ bad_line (number Malformed)
  unfolding records_text is_first_lem leading_records lines_from run both pick
  text_bad h = rw (h, ne_eqb 0 (suc n) (λ q. omega arith))

  pub text-line : is_first_lem e bytes ≡ true
      → let o : Stepped = step early list_room s (event_of e (take record_length bytes)) in
      records_text e next s (suc n) bytes ≡ line next (number o.answer) o.bytes ++ records_text e (suc next) o.state n (drop record_length bytes)
  unfolding records_text is_first_lem leading_records lines_from run pick
  text-line h =
      let l : record_length ≤ length bytes = leb-true _ _ (both_l _ _ h) in
      let d : length (drop record_length bytes) ≡ length bytes - record_length = length-drop record_length bytes in
      let m : Count = length (leading_records e n (drop record_length bytes)) in
      rw (
        h,
        eqb_same (suc m) (suc n) m n (λ q. omega arith) (λ q. omega arith),
        eqb_same (length bytes) (record_length * suc n) (length (drop record_length bytes)) (record_length * n) (λ q. omega arith) (λ q. omega arith),
        append_assoc,
      )

-- by what start answers to the image
unfoldable pub image_text : Edition → Image → Count → Bytes → Bytes
image_text e x records bytes =
    pick (is_done (first_of (start_refusals x))) (records_text e 0 (started_state x) records bytes) (bad_line (number (first_of (start_refusals x))))

-- ---- a file, part by part

module _ (bytes : Bytes) where
  pub streamed-none : has_image bytes ≡ false → streamed bytes ≡ bad_line (number Malformed)
  unfolding streamed
  streamed-none h = pick-false _ _ h

  pub streamed-short : length bytes < records_offset (edition_of bytes) → streamed bytes ≡ bad_line (number Malformed)
  unfolding has_image both
  streamed-short h =
      streamed-none (rw (lt-leb (records_offset (edition_of bytes)) (length bytes) h) (split (is_header count_limit bytes) (λ e. rw e) (λ e. rw e)))

  pub streamed_bad : is_header count_limit bytes ≡ false → streamed bytes ≡ bad_line (number Malformed)
  unfolding has_image both
  streamed_bad h = streamed-none (rw h)

  pub streamed-image : is_header count_limit bytes ≡ true → records_offset (edition_of bytes) ≤ length bytes
      → streamed bytes ≡ image_text (edition_of bytes) (image_in bytes) (record_count bytes) (after_image bytes)
  unfolding has_image streamed streamed_by good_lines is_all good_records records_text image_text
  streamed-image h l = pick_true _ _ (both_i h (le-leb (records_offset (edition_of bytes)) (length bytes) l))
