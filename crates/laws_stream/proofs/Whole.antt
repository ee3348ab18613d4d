-- A well-formed file prints in pieces what it prints as one. Assumes nothing.
use mathlib.Core.Path.{◌≡◌, refl, sym, ap, ◌∙◌}
use mathlib.Core.Bool.{true}
use Prim.Native.Nat.{◌+◌, ◌*◌, ◌≤◌, ◌<◌}
use native.Mathlib.Omega.{arith}
use lib.ListN.{length}
use borrow.Author.Tests.{eqb-true}
use Rattle.bits.proofs.Tests.{split, clash, both_l, both_r, pick_true, pick-false}
use Rattle.bits.proofs.Loops.{all_at}
use Rattle.model.specs.Numbers.{Bytes, Count, RecordIndex}
use Rattle.model.specs.Answers.{is_done}
use Rattle.model.specs.Refusals.{first_of, start_refusals}
use Rattle.model.specs.File.{edition_of, records_offset, record_length, record_count, record_limit, is_whole_length, is_record, image_in, record_in, events_in, is_well_formed, file_check_by, file_check_up_to}
use Rattle.model.specs.Night.{night_of, printed_text_by, printed_up_to, printed_text}
use Rattle.model.specs.Stream.{count_limit, streamed}
use Rattle.laws.proofs.Unchanged.{done_is}
use Rattle.laws_stream.specs.Streams.{WellFormed, Imaged, Played, lines_to, refused_image, all_good}
use Rattle.laws_stream.proofs.Headers.{header_wider}
use Rattle.laws_stream.proofs.Rows.{row_prints}

module _ (limit : Count) (file : Bytes) (formed : WellFormed limit file) where
  its-length : length file ≡ records_offset (edition_of file) + record_length * record_count file
  unfolding is_well_formed is_whole_length
  its-length = eqb-true _ _ (both_r _ _ (both_l _ _ formed))

  its_record : (k : RecordIndex) → k < record_count file → is_record (edition_of file) (record_in file k) ≡ true
  unfolding is_well_formed
  its_record = all_at _ _ (both_r _ _ formed)

  -- what the check finds, by what start answers
  checked : file_check_up_to limit file ≡ file_check_by (first_of (start_refusals (image_in file))) file
  unfolding file_check_up_to
  checked = pick_true _ _ formed

  module _ (wide : limit ≤ count_limit) where
    imaged : Imaged file
    unfolding is_well_formed
    imaged = record {
      headed = record { whole = omega (arith, its-length); right = header_wider limit count_limit file wide (both_l _ _ (both_l _ _ formed)) };
      whole = omega (arith, its-length);
    }

    as_printed : streamed file ≡ printed_up_to limit file
    unfolding printed_up_to printed_text_by file_check_by lines_to night_of events_in is_done
    as_printed = split (is_done (first_of (start_refusals (image_in file))))
        (λ d.
        let P : Played file (record_count file) = record {
          imaged = imaged;
          taken = done_is _ d;
          good = λ j b. record { whole = omega (arith, its-length); formed = its_record j b };
        } in
        row_prints file (all_good P its-length) ∙ sym (ap (λ found. printed_text_by found file) (checked ∙ pick_true _ _ d)))
        (λ d.
        row_prints file (refused_image _ (λ e. clash (ap is_done e) d) imaged refl) ∙ sym (ap (λ found. printed_text_by found file) (checked ∙ pick-false _ _ d)))

-- THE THEOREM for every well-formed file, however many records it counts: it prints what it prints as one with the limit of 5,000 set aside,
-- the one bad line of an image that start refuses included
pub streamed-whole : (file : Bytes) → WellFormed count_limit file → streamed file ≡ printed_up_to count_limit file
streamed-whole file formed = as_printed count_limit file formed (omega arith)

-- .. and within that limit it prints what it prints as one
pub streamed_as_one : (file : Bytes) → WellFormed record_limit file → streamed file ≡ printed_text file
streamed_as_one file formed = as_printed record_limit file formed (omega arith)
