-- The night file: header, image, records (01 "The night file").
use Rattle.std.specs.Prelude.{zero, suc, ◌+◌, ◌*◌, Bool, List, [], ◌∷◌, ◌++◌, eqb, leb, ltb, length, get_or, take, drop, Err, Ok, Result}
use Rattle.bits.specs.Choice.{pick, both, implies}
use Rattle.bits.specs.Loop.{tab, all_below}
use Rattle.bits.specs.Word.{word}
use Rattle.model.specs.Numbers.{Byte, Bytes, Count, RecordIndex}
use Rattle.model.specs.Map.{Image, image_length}
use Rattle.model.specs.Answers.{is_done}
use Rattle.model.specs.Refusals.{first_of, start_refusals}
use Rattle.model.specs.declared.answer.Answer.{Answer}
use Rattle.model.specs.declared.answer.Answer.TheVariants.{Malformed}
use Rattle.model.specs.declared.event.Call.{Call}
use Rattle.model.specs.declared.event.Call.TheVariants.{Write, Read, Work, Hardware, Condition, Sample, Lasting, Module, Line}
use Rattle.model.specs.declared.event.Event.{Event}

-- ---- the editions of the file

-- the form of a record: its kind, how many of its bytes the kind uses, and the call that it says
pub record Form : Type 0 where
  pub kind : Byte
  pub used : Bytes → Count
  pub call : Bytes → Call

-- an edition: its number, how many bytes of the image it carries, the forms of its records
pub record Edition : Type 0 where
  pub number : Byte
  pub image_bytes : Count
  pub forms : List Form

abbrev pub write_kind : Byte
write_kind = 1

abbrev pub read_kind : Byte
read_kind = 2

abbrev pub work_kind : Byte
work_kind = 3

abbrev pub hardware_kind : Byte
hardware_kind = 4

abbrev pub condition_kind : Byte
condition_kind = 5

abbrev pub sample_kind : Byte
sample_kind = 6

abbrev pub module_kind : Byte
module_kind = 7

abbrev pub line_kind : Byte
line_kind = 8

-- a record carries at most 8 data bytes, from its fourth on
abbrev pub data_start : Count
data_start = 3

abbrev pub data_limit : Count
data_limit = 8

-- a write uses the data that it counts, as far as a record carries them
unfoldable pub written_bytes : Bytes → Count
written_bytes bytes = data_start + pick (ltb data_limit (get_or bytes 2 0)) data_limit (get_or bytes 2 0)

abbrev pub form : Byte → (Bytes → Count) → (Bytes → Call) → Form
form kind used call = record { kind = kind; used = used; call = call }

-- a lane and its received power, the high byte first
abbrev pub sample_call : Bytes → Call
sample_call bytes = Sample (get_or bytes 1 0) (get_or bytes 2 0 * 256 + get_or bytes 3 0)

-- the six forms; the condition's, which not every edition has alike, by how many bytes it uses and the call that it says
abbrev pub forms_with : Count → (Bytes → Call) → List Form
forms_with condition_uses condition_call =
    form write_kind written_bytes (λ bytes. Write (get_or bytes 1 0) (get_or bytes 2 0))
    ∷ form read_kind (λ bytes. 3) (λ bytes. Read (get_or bytes 1 0) (get_or bytes 2 0))
    ∷ form work_kind (λ bytes. 2) (λ bytes. Work (get_or bytes 1 0))
    ∷ form hardware_kind (λ bytes. 2) (λ bytes. Hardware (get_or bytes 1 0))
    ∷ form condition_kind (λ bytes. condition_uses) condition_call
    ∷ form sample_kind (λ bytes. 4) sample_call
    ∷ []

-- a condition that comes once: a flag byte and a mask
abbrev pub once_call : Bytes → Call
once_call bytes = Condition (get_or bytes 1 0) (get_or bytes 2 0)

abbrev pub first_forms : List Form
first_forms = forms_with 3 once_call

abbrev pub first_edition : Edition
first_edition = record { number = 1; image_bytes = 768; forms = first_forms }

-- a lasting condition: a flag byte, an on mask and an off mask
abbrev pub lasting_call : Bytes → Call
lasting_call bytes = Lasting (get_or bytes 1 0) (get_or bytes 2 0) (get_or bytes 3 0)

-- the low-power line, 1 on or 0 off; any other byte says nothing, and none of the record is used
unfoldable pub line_bytes : Bytes → Count
line_bytes bytes = pick (ltb (get_or bytes 1 0) 2) 2 0

-- the module event and the event of the line
abbrev pub power_forms : List Form
power_forms = form module_kind (λ bytes. 1) (λ bytes. Module) ∷ form line_kind line_bytes (λ bytes. Line (eqb (get_or bytes 1 0) 1)) ∷ []

-- every edition from the second on: the second carries page 9Fh (02 Req 01), in the third conditions last (02 Req 02), the fourth has events of the module's
-- power (02 Req 04)
abbrev pub later_editions : List Edition
later_editions =
    record { number = 2; image_bytes = 896; forms = first_forms }
    ∷ record { number = 3; image_bytes = 896; forms = forms_with 4 lasting_call }
    ∷ record { number = 4; image_bytes = 896; forms = forms_with 4 lasting_call ++ power_forms }
    ∷ []

-- the edition of a number; the first where no later one has it
unfoldable pub edition_among : List Edition → Byte → Edition
edition_among [] n = first_edition
edition_among (e ∷ es) n = pick (eqb n e.number) e (edition_among es n)

-- ---- the header, 16 bytes: "WL", edition, 0, then three numbers of four bytes

abbrev pub image_offset : Count
image_offset = 16

-- the edition that a header names
abbrev pub edition_of : Bytes → Edition
edition_of header = edition_among later_editions (get_or header 2 0)

-- an edition's records follow its image
abbrev pub records_offset : Edition → Count
records_offset e = image_offset + e.image_bytes

unfoldable pub record_count : Bytes → Count
record_count header = word 4 header 4

-- a header that counts no more records than a limit
unfoldable pub is_header : Count → Bytes → Bool
is_header limit header =
    both (both (eqb (get_or header 0 0) 0x57) (eqb (get_or header 1 0) 0x4c))
    (both (both (eqb (get_or header 2 0) (edition_of header).number) (eqb (get_or header 3 0) 0))
    (both (leb (record_count header) limit)
    (both (eqb (word 4 header 8) image_offset) (eqb (word 4 header 12) (records_offset (edition_of header))))))

-- ---- a record, 12 bytes

abbrev pub record_length : Count
record_length = 12

abbrev pub kind_of : Bytes → Byte
kind_of bytes = get_or bytes 0 0

-- how many of a record's bytes its kind uses; none for a kind that is not listed
unfoldable pub used_bytes : List Form → Bytes → Count
used_bytes [] bytes = 0
used_bytes (f ∷ fs) bytes = pick (eqb (kind_of bytes) f.kind) (f.used bytes) (used_bytes fs bytes)

-- a listed kind, and zeros in the bytes that it does not use
unfoldable pub is_record : Edition → Bytes → Bool
is_record e bytes =
    both (ltb 0 (used_bytes e.forms bytes))
    (all_below record_length (λ j. implies (leb (used_bytes e.forms bytes) j) (eqb (get_or bytes j 0) 0)))

-- the call that a record says; one of a kind that is not listed is never replayed, and reads as a sample here
unfoldable pub call_of : List Form → Bytes → Call
call_of [] bytes = sample_call bytes
call_of (f ∷ fs) bytes = pick (eqb (kind_of bytes) f.kind) (f.call bytes) (call_of fs bytes)

unfoldable pub event_of : Edition → Bytes → Event
event_of e bytes = record { call = call_of e.forms bytes; bytes = tab data_limit (λ j. get_or bytes (data_start + j) 0) }

-- ---- the whole file: the header, the image, the records

-- the header may count 5,000 records
abbrev pub record_limit : Count
record_limit = 5000

unfoldable pub is_whole_length : Bytes → Bool
is_whole_length file = eqb (length file) (records_offset (edition_of file) + record_length * record_count file)

-- the bytes of the image that a file carries
unfoldable pub carried_image : Bytes → Bytes
carried_image file = take (edition_of file).image_bytes (drop image_offset file)

-- the first n bytes, and zeros where there are none
unfoldable pub first_bytes : Count → Bytes → Bytes
first_bytes zero bytes = []
first_bytes (suc n) [] = 0 ∷ first_bytes n []
first_bytes (suc n) (b ∷ bytes) = b ∷ first_bytes n bytes

-- an image of today's length: zeros where an edition carries none
abbrev pub laid_out : Bytes → Image
laid_out bytes = first_bytes image_length bytes

abbrev pub image_in : Bytes → Image
image_in file = laid_out (carried_image file)

-- where record k begins
abbrev pub record_start : Bytes → RecordIndex → Count
record_start file k = records_offset (edition_of file) + record_length * k

unfoldable pub record_in : Bytes → RecordIndex → Bytes
record_in file k = take record_length (drop (record_start file k) file)

unfoldable pub events_in : Bytes → List Event
events_in file = tab (record_count file) (λ k. event_of (edition_of file) (record_in file k))

unfoldable pub is_well_formed : Count → Bytes → Bool
is_well_formed limit file =
    both (both (is_header limit file) (is_whole_length file)) (all_below (record_count file) (λ k. is_record (edition_of file) (record_in file k)))

-- ---- the check of the whole file: malformed first, then what start answers to its image

unfoldable pub file_check_by : Answer → Bytes → Result Count Answer
file_check_by a file = pick (is_done a) (Ok (record_count file)) (Err a)

unfoldable pub file_check_up_to : Count → Bytes → Result Count Answer
file_check_up_to limit file = pick (is_well_formed limit file) (file_check_by (first_of (start_refusals (image_in file))) file) (Err Malformed)

abbrev pub file_check : Bytes → Result Count Answer
file_check file = file_check_up_to record_limit file
