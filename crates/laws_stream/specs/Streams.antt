-- What is printed for any bytes, row by row (02 Req 09, the table of the night in pieces).
use Rattle.std.specs.Prelude.{◌≡◌, true, false, ◌≢◌, suc, ◌≤◌, ◌<◌, length, take}
use mathlib.Core.List.{◌++◌, flatten}
use Rattle.bits.specs.Loop.{tab}
use Rattle.bits.specs.Word.{put_word}
use Rattle.model.specs.Numbers.{Bytes, Count, RecordIndex}
use Rattle.model.specs.Answers.{number}
use Rattle.model.specs.Work.{early}
use Rattle.model.specs.Start.{started_state}
use Rattle.model.specs.Refusals.{first_of, start_refusals}
use Rattle.model.specs.Step.{run}
use Rattle.model.specs.Outcome.{list_room}
use Rattle.model.specs.File.{edition_of, image_offset, records_offset, record_count, is_header, is_record, event_of, carried_image, image_in, record_start, record_in, is_well_formed}
use Rattle.model.specs.Text.{bad_line}
use Rattle.model.specs.Night.{lines_from, printed_up_to}
use Rattle.model.specs.Stream.{count_limit, good_records, Carried, silent, ended, fed}
use Rattle.model.specs.declared.answer.Answer.{Answer}
use Rattle.model.specs.declared.answer.Answer.TheVariants.{Done, Malformed}

-- ---- parts of a file

-- a well-formed file that counts at most so many records
abbrev pub WellFormed : Count → Bytes → Type 0
WellFormed limit file = is_well_formed limit file ≡ true

-- no header: too few bytes, or one of them wrong
pub data NoHeader (bytes : Bytes) : Type 0 where
  short : length bytes < image_offset → NoHeader bytes
  wrong : is_header count_limit bytes ≡ false → NoHeader bytes

-- a right header
pub record Headed (bytes : Bytes) : Type 0 where
  pub whole : image_offset ≤ length bytes
  pub right : is_header count_limit bytes ≡ true

-- .. and after it a whole image
pub record Imaged (bytes : Bytes) : Type 0 where
  pub headed : Headed bytes
  pub whole : records_offset (edition_of bytes) ≤ length bytes

-- start answers a to the image
abbrev pub Started : Answer → Bytes → Type 0
Started a bytes = first_of (start_refusals (image_in bytes)) ≡ a

-- record j is whole and well-formed
pub record Good (bytes : Bytes) (j : RecordIndex) : Type 0 where
  pub whole : record_start bytes (suc j) ≤ length bytes
  pub formed : is_record (edition_of bytes) (record_in bytes j) ≡ true

-- record k is malformed, or cut off by the end, or not there
pub data Bad (bytes : Bytes) (k : RecordIndex) : Type 0 where
  malformed : is_record (edition_of bytes) (record_in bytes k) ≡ false → Bad bytes k
  cut_off : length bytes < record_start bytes (suc k) → Bad bytes k

-- the image is whole and taken, and records 0 to k - 1 are good
pub record Played (bytes : Bytes) (k : Count) : Type 0 where
  pub imaged : Imaged bytes
  pub taken : Started Done bytes
  pub good : (j : RecordIndex) → j < k → Good bytes j

-- the lines of records 0 to k - 1, from start on
unfoldable pub lines_to : Bytes → Count → Bytes
lines_to bytes k = lines_from 0 (run early list_room (started_state (image_in bytes)) (tab k (λ j. event_of (edition_of bytes) (record_in bytes j))))

-- ---- the table: bytes, and all that is printed for them

-- a constructor for each row, in the table's order
pub data Row (bytes : Bytes) : Bytes → Type 0 where
  no_header : NoHeader bytes → Row bytes (bad_line (number Malformed))
  no_image : Headed bytes → length bytes < records_offset (edition_of bytes) → Row bytes (bad_line (number Malformed))
  refused_image : (a : Answer) → a ≢ Done → Imaged bytes → Started a bytes → Row bytes (bad_line (number a))
  bad_record : (k : RecordIndex) → k < record_count bytes → Played bytes k → Bad bytes k → Row bytes (lines_to bytes k ++ bad_line (number Malformed))
  byte_more : Played bytes (record_count bytes) → record_start bytes (record_count bytes) < length bytes
      → Row bytes (lines_to bytes (record_count bytes) ++ bad_line (number Malformed))
  all_good : Played bytes (record_count bytes) → length bytes ≡ record_start bytes (record_count bytes) → Row bytes (lines_to bytes (record_count bytes))

-- ---- files that are not well-formed

-- the header, its count adjusted to the good records that come first
unfoldable pub good_header : Bytes → Bytes
good_header bytes = put_word 4 (take image_offset bytes) 4 (length (good_records bytes))

-- the file of just these records
unfoldable pub good_file : Bytes → Bytes
good_file bytes = good_header bytes ++ carried_image bytes ++ flatten (good_records bytes)

-- what such bytes print: 9 where there is no right header with a whole image; the answer of start to an image that it refuses, whatever follows;
-- else what the file of the good records prints, and then 9
pub data FaultText (bytes : Bytes) : Bytes → Type 0 where
  not_imaged : (Imaged bytes → ⊥) → FaultText bytes (bad_line (number Malformed))
  not_taken : (a : Answer) → a ≢ Done → Imaged bytes → Started a bytes → FaultText bytes (bad_line (number a))
  late : Imaged bytes → Started Done bytes → WellFormed count_limit (good_file bytes)
      → FaultText bytes (printed_up_to count_limit (good_file bytes) ++ bad_line (number Malformed))

-- ---- after a bad line

-- no byte and no end prints anything or changes anything
pub record Stays (c : Carried) : Type 0 where
  pub bytes : (bytes : Bytes) → fed c bytes ≡ silent c
  pub end : ended c ≡ silent c
