-- The night in pieces (02 Req 09): all that is printed for any bytes, and the same byte by byte, with what is carried from each to the next.
use Rattle.std.specs.Prelude.{zero, suc, ◌*◌, Bool, List, [], ◌∷◌, ◌++◌, map, eqb, leb, ltb, length, get_or, set, take, drop}
use Rattle.bits.specs.Choice.{pick, both}
use Rattle.model.specs.Numbers.{Byte, Bytes, Count, RecordIndex}
use Rattle.model.specs.Map.{Image}
use Rattle.model.specs.Answers.{number, is_done}
use Rattle.model.specs.Records.{idle_working}
use Rattle.model.specs.State.{State, state_with, with_image}
use Rattle.model.specs.Work.{early}
use Rattle.model.specs.Start.{started_state}
use Rattle.model.specs.Refusals.{first_of, start_refusals}
use Rattle.model.specs.Step.{Stepped, step, run}
use Rattle.model.specs.Outcome.{list_room}
use Rattle.model.specs.File.{Edition, later_editions, edition_among, edition_of, image_offset, records_offset, record_count, is_header, record_length, is_record, event_of, laid_out, image_in}
use Rattle.model.specs.Text.{line, bad_line}
use Rattle.model.specs.Night.{lines_from}
use Rattle.model.specs.declared.answer.Answer.{Answer}
use Rattle.model.specs.declared.answer.Answer.TheVariants.{Malformed}
use Rattle.model.specs.declared.stream.Phase.{Phase}
use Rattle.model.specs.declared.stream.Phase.TheVariants.{InHeader, InImage, InRecords, Over}

-- the header may count as many records as four bytes can
abbrev pub count_limit : Count
count_limit = 4294967295

-- ---- all that is printed

-- the header is right and the image is whole
unfoldable pub has_image : Bytes → Bool
has_image bytes = both (is_header count_limit bytes) (leb (records_offset (edition_of bytes)) (length bytes))

-- what comes after the image
unfoldable pub after_image : Bytes → Bytes
after_image bytes = drop (records_offset (edition_of bytes)) bytes

-- the records that come first, up to one that is malformed or not whole, and at most so many
unfoldable pub leading_records : Edition → Count → Bytes → List Bytes
leading_records e zero bytes = []
leading_records e (suc n) bytes =
    pick (both (leb record_length (length bytes)) (is_record e (take record_length bytes)))
    (take record_length bytes ∷ leading_records e n (drop record_length bytes))
    []

unfoldable pub good_records : Bytes → List Bytes
good_records bytes = leading_records (edition_of bytes) (record_count bytes) (after_image bytes)

-- their lines, from start on
unfoldable pub good_lines : Bytes → Bytes
good_lines bytes = lines_from 0 (run early list_room (started_state (image_in bytes)) (map (event_of (edition_of bytes)) (good_records bytes)))

-- every record that is counted is among them, and not a byte comes after
unfoldable pub is_all : Bytes → Bool
is_all bytes = both (eqb (length (good_records bytes)) (record_count bytes)) (eqb (length (after_image bytes)) (record_length * record_count bytes))

-- by what start answers to the image
unfoldable pub streamed_by : Answer → Bytes → Bytes
streamed_by a bytes = pick (is_done a) (good_lines bytes ++ pick (is_all bytes) [] (bad_line (number Malformed))) (bad_line (number a))

-- ALL THAT IS PRINTED for any bytes, however they are cut
unfoldable pub streamed : Bytes → Bytes
streamed bytes = pick (has_image bytes) (streamed_by (first_of (start_refusals (image_in bytes))) bytes) (bad_line (number Malformed))

-- ---- byte by byte

-- what is carried: the phase, the header's edition, the bytes held of a header or a record that is not whole, and the module's state.
-- An image that is not whole lies where the module's will be.
pub record Carried : Type 0 where
  pub phase : Phase
  pub edition : Byte
  pub held : Bytes
  pub state : State

-- before the first byte, with the image that is lent
unfoldable pub begun : Image → Carried
begun x = record { phase = InHeader; edition = 0; held = []; state = state_with x idle_working }

abbrev pub row_of : Carried → Edition
row_of c = edition_among later_editions c.edition

-- what is carried on, and what is printed
pub record Took : Type 0 where
  pub carried : Carried
  pub text : Bytes

-- nothing is printed
abbrev pub silent : Carried → Took
silent c = record { carried = c; text = [] }

-- the next phase begins, with nothing held
abbrev pub entering : Phase → State → Carried → Carried
entering phase s c = record { phase = phase; edition = c.edition; held = []; state = s }

-- the same phase goes on, with these bytes held
abbrev pub holding : Bytes → Carried → Carried
holding bytes c = record { phase = c.phase; edition = c.edition; held = bytes; state = c.state }

-- a bad line is the last one
unfoldable pub refused : Answer → Carried → Took
refused a c = record { carried = entering Over c.state c; text = bad_line (number a) }

-- the header's bytes, judged at the last of them
unfoldable pub took_header : Carried → Bytes → Took
took_header c bytes =
    pick (ltb (length bytes) image_offset) (silent (holding bytes c))
    (pick (is_header count_limit bytes)
    (silent (record { phase = InImage 0 (record_count bytes); edition = get_or bytes 2 0; held = []; state = c.state }))
    (refused Malformed c))

-- a whole image, by what start answers to it
unfoldable pub started_by : Answer → Carried → Count → Image → Took
started_by a c records x =
    pick (is_done a) (silent (entering (InRecords 0 records) (started_state x) c)) (refused a (entering Over (with_image c.state x) c))

-- the bytes that have come, as an image of today's length
unfoldable pub whole_image : Carried → Image → Image
whole_image c x = laid_out (take (row_of c).image_bytes x)

-- a byte of the image in its place, judged at the last of them
unfoldable pub took_image : Carried → Count → Count → Image → Took
took_image c come records x =
    pick (ltb (suc come) (row_of c).image_bytes)
    (silent (record { phase = InImage (suc come) records; edition = c.edition; held = c.held; state = with_image c.state x }))
    (started_by (first_of (start_refusals (whole_image c x))) c records (whole_image c x))

-- a record's step and its line
unfoldable pub played : Carried → RecordIndex → Count → Stepped → Took
played c next records o =
    record { carried = entering (InRecords (suc next) records) o.state c; text = line next (number o.answer) o.bytes }

-- a whole record, by the edition that is carried
abbrev pub judged_record : Carried → RecordIndex → Count → Bytes → Took
judged_record c next records bytes =
    pick (is_record (row_of c) bytes) (played c next records (step early list_room c.state (event_of (row_of c) bytes))) (refused Malformed c)

-- a record's bytes, judged at the last of them; none is due after the last record
unfoldable pub took_record : Carried → RecordIndex → Count → Bytes → Took
took_record c next records bytes =
    pick (ltb next records)
    (pick (ltb (length bytes) record_length) (silent (holding bytes c)) (judged_record c next records (take record_length bytes)))
    (refused Malformed c)

unfoldable pub took_in : Phase → Carried → Byte → Took
took_in InHeader c b = took_header c (c.held ++ (b ∷ []))
took_in (InImage come records) c b = took_image c come records (set c.state.image come b)
took_in (InRecords next records) c b = took_record c next records (c.held ++ (b ∷ []))
took_in Over c b = silent c

-- one byte
unfoldable pub took : Carried → Byte → Took
took c b = took_in c.phase c b

-- the end: 9 in the header, in the image, inside a record, and where records are still to come
unfoldable pub ended_in : Phase → Carried → Took
ended_in InHeader c = refused Malformed c
ended_in (InImage come records) c = refused Malformed c
ended_in (InRecords next records) c =
    pick (both (leb records next) (eqb (length c.held) 0)) (silent (entering Over c.state c)) (refused Malformed c)
ended_in Over c = silent c

unfoldable pub ended : Carried → Took
ended c = ended_in c.phase c

-- what was printed before
abbrev pub printed_after : Bytes → Took → Took
printed_after text t = record { carried = t.carried; text = text ++ t.text }

-- the bytes of a piece
unfoldable pub fed : Carried → Bytes → Took
fed c [] = silent c
fed c (b ∷ bytes) = let t = took c b in printed_after t.text (fed t.carried bytes)

-- piece after piece, and the end
unfoldable pub fed_all : Carried → List Bytes → Took
fed_all c [] = ended c
fed_all c (piece ∷ pieces) = let t = fed c piece in printed_after t.text (fed_all t.carried pieces)
