-- When a header, a record and a night file are malformed, fault by fault, and what is found of every file (01 "The night file").
-- A file may count as many records as a limit says.
use Rattle.std.specs.Prelude.{◌≡◌, true, false, List, ◌≢◌, ℕ, ◌+◌, ◌*◌, ◌≤◌, ◌<◌, ltb, length, get_or, Err, Ok, Result}
use Rattle.bits.specs.Choice.{pick}
use Rattle.bits.specs.Word.{word}
use Rattle.model.specs.Refusals.{is_flat, is_back_to_front}
use Rattle.model.specs.File.{Edition, edition_of, image_offset, records_offset, record_length, record_count, image_in, record_in, kind_of, write_kind, read_kind, work_kind, hardware_kind, condition_kind, sample_kind, module_kind, line_kind, data_start, data_limit}
use Rattle.model.specs.declared.answer.Answer.TheVariants.{FlatMemory, Malformed, BackToFront}
use Rattle.model.specs.declared.answer.Answer.{Answer}

-- none of an edition's kinds: write, read, work, hardware, condition, sample; from the fourth edition on the module event and the low-power line
pub record NotListed (e : Edition) (kind : ℕ) : Type 0 where
  pub write : kind ≢ write_kind
  pub read : kind ≢ read_kind
  pub work : kind ≢ work_kind
  pub hardware : kind ≢ hardware_kind
  pub condition : kind ≢ condition_kind
  pub sample : kind ≢ sample_kind
  pub power : 4 ≤ e.number → (kind ≢ module_kind) × (kind ≢ line_kind)

-- how many bytes of a record a condition uses, in an edition: its kind, a flag byte and a mask, and from the third edition on another mask
abbrev pub condition_bytes : Edition → ℕ
condition_bytes e = pick (ltb e.number 3) 3 4

-- byte j of a record is one that its kind does not use, in the file's edition: what lies past a write's count of data, or past the eight bytes
-- that a record carries; past a read's address and count, a lane, what a condition uses, a lane and the two bytes of its sample; past the kind of a module event,
-- past what a line is to be
pub data Unused (e : Edition) (bytes : List ℕ) (j : ℕ) : Type 0 where
  past_count : kind_of bytes ≡ write_kind → data_start + get_or bytes 2 0 ≤ j → Unused e bytes j
  past_data : kind_of bytes ≡ write_kind → data_start + data_limit ≤ j → Unused e bytes j
  past_read : kind_of bytes ≡ read_kind → 3 ≤ j → Unused e bytes j
  past_work : kind_of bytes ≡ work_kind → 2 ≤ j → Unused e bytes j
  past_hardware : kind_of bytes ≡ hardware_kind → 2 ≤ j → Unused e bytes j
  past_condition : kind_of bytes ≡ condition_kind → condition_bytes e ≤ j → Unused e bytes j
  past_sample : kind_of bytes ≡ sample_kind → 4 ≤ j → Unused e bytes j
  past_module : kind_of bytes ≡ module_kind → 1 ≤ j → Unused e bytes j
  past_line : kind_of bytes ≡ line_kind → 2 ≤ j → Unused e bytes j

-- a fault of a record in an edition: in its kind, in a byte that it does not use, in a line that is to be neither on, 1, nor off, 0
pub data RecordFault (e : Edition) (bytes : List ℕ) : Type 0 where
  no_such_kind : NotListed e (kind_of bytes) → RecordFault e bytes
  unused_byte : (j : ℕ) → j < record_length → Unused e bytes j → get_or bytes j 0 ≢ 0 → RecordFault e bytes
  neither_on_nor_off : kind_of bytes ≡ line_kind → 2 ≤ get_or bytes 1 0 → RecordFault e bytes

-- a fault of a header: in the letters "WL", the edition, the zero, the count, the offsets
pub data HeaderFault (limit : ℕ) (header : List ℕ) : Type 0 where
  first_letter : get_or header 0 0 ≢ 0x57 → HeaderFault limit header
  second_letter : get_or header 1 0 ≢ 0x4c → HeaderFault limit header
  other_edition : get_or header 2 0 ≢ (edition_of header).number → HeaderFault limit header
  not_zero : get_or header 3 0 ≢ 0 → HeaderFault limit header
  too_many : limit < record_count header → HeaderFault limit header
  image_elsewhere : word 4 header 8 ≢ image_offset → HeaderFault limit header
  records_elsewhere : word 4 header 12 ≢ records_offset (edition_of header) → HeaderFault limit header

-- a fault of a file: in its header, in its length, in a record
pub data Fault (limit : ℕ) (file : List ℕ) : Type 0 where
  in_header : HeaderFault limit file → Fault limit file
  other_length : length file ≢ records_offset (edition_of file) + record_length * record_count file → Fault limit file
  in_record : (k : ℕ) → k < record_count file → RecordFault (edition_of file) (record_in file k) → Fault limit file

-- what is found of a file: 9 where it has a fault; else 2 and 10 as start of its image has them; else it is good
pub data Found (limit : ℕ) (file : List ℕ) : Result ℕ Answer → Type 0 where
  malformed : Fault limit file → Found limit file (Err Malformed)
  flat : (Fault limit file → ⊥) → is_flat (image_in file) ≡ true → Found limit file (Err FlatMemory)
  back_to_front : (Fault limit file → ⊥) → is_flat (image_in file) ≡ false → is_back_to_front (image_in file) ≡ true → Found limit file (Err BackToFront)
  good : (Fault limit file → ⊥) → is_flat (image_in file) ≡ false → is_back_to_front (image_in file) ≡ false → Found limit file (Ok (record_count file))
