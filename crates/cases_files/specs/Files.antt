-- Night files, and what is printed for them (01 "The night file").
use Rattle.std.specs.Prelude.{ℕ, Bool, List, [], ◌∷◌, ◌++◌, take, set}
use Rattle.model.specs.Step.{event}
use Rattle.model.specs.declared.event.Call.TheVariants.{Write}
use Rattle.cases.specs.Case.{blank, limited, example, write, read, work, hardware, condition, sample, select_page}
use Rattle.cases.specs.Files.{padded, header_of, file_of, flat, malformed, prints_in_one}

-- a file of no records with another byte at a place of its header: malformed
abbrev pub spoilt : ℕ → ℕ → Bool
spoilt i v = prints_in_one (set (file_of blank []) i v) malformed

-- a file of one record whose bytes make none: malformed
abbrev pub no_record : List ℕ → Bool
no_record bytes = prints_in_one (header_of 1 ++ take 768 blank ++ padded bytes) malformed

abbrev pub files : List Bool
files =
    -- the example of 01
    prints_in_one (file_of example.image example.events) example.seen
    -- no records: nothing is printed
    ∷ prints_in_one (file_of blank []) []
    -- a write whose count is above 8 is no malformed record
    ∷ prints_in_one (file_of blank (event (Write 31 9) (1 ∷ 2 ∷ 3 ∷ 4 ∷ 5 ∷ 6 ∷ 7 ∷ 8 ∷ []) ∷ [])) ("0 4" ∷ [])
    -- .. but past 8 bytes of data nothing is used
    ∷ no_record (1 ∷ 31 ∷ 9 ∷ 1 ∷ 2 ∷ 3 ∷ 4 ∷ 5 ∷ 6 ∷ 7 ∷ 8 ∷ 9 ∷ [])
    -- data past the count is unused, so it must be 0
    ∷ prints_in_one (file_of blank (event (Write 31 1) (1 ∷ 2 ∷ []) ∷ [])) malformed
    -- a flat image
    ∷ prints_in_one (file_of flat (work 0 ∷ [])) ("bad 2" ∷ [])
    -- .. in a malformed file: a byte too many
    ∷ prints_in_one (file_of flat (work 0 ∷ []) ++ (0 ∷ [])) malformed
    -- limits back to front
    ∷ prints_in_one (file_of (limited 4 3 2 1 blank) (work 0 ∷ [])) ("bad 10" ∷ [])
    -- each kind of record, with arguments that differ
    ∷ prints_in_one (file_of blank
    (condition 136 0x81 ∷ sample 7 300 ∷ select_page 0x11 ∷ read 136 1 ∷ read 200 2 ∷ write 31 (1 ∷ 2 ∷ 3 ∷ []) ∷ read 31 3 ∷ work 9 ∷ hardware 9 ∷ []))
    ("0 0" ∷ "1 0" ∷ "2 0" ∷ "3 0 81" ∷ "4 0 01 2c" ∷ "5 0" ∷ "6 0 01 02 03" ∷ "7 8" ∷ "8 8" ∷ [])
    -- a byte too few, though it is a 0
    ∷ prints_in_one (take 795 (file_of blank (work 0 ∷ []))) malformed
    -- kinds 0 and 7, and of each kind the first byte that it does not use
    ∷ no_record (0 ∷ [])
    ∷ no_record (7 ∷ [])
    ∷ no_record (2 ∷ 31 ∷ 1 ∷ 1 ∷ [])
    ∷ no_record (3 ∷ 0 ∷ 1 ∷ [])
    ∷ no_record (4 ∷ 0 ∷ 1 ∷ [])
    ∷ no_record (5 ∷ 136 ∷ 1 ∷ 1 ∷ [])
    ∷ no_record (6 ∷ 0 ∷ 1 ∷ 1 ∷ 1 ∷ [])
    -- the header: "WL", edition, 0, a record that is not there, both offsets
    ∷ spoilt 0 0x56
    ∷ spoilt 1 0x4d
    ∷ spoilt 2 0x02
    ∷ spoilt 2 0x03
    ∷ spoilt 2 0x04
    ∷ spoilt 3 0x01
    ∷ spoilt 7 0x01
    ∷ spoilt 11 0x11
    ∷ spoilt 15 0x11
    -- nothing at all
    ∷ prints_in_one [] malformed
    ∷ []
