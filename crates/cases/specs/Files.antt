-- The night file of a case, and what is printed for one, in one and in pieces (01 "The night file", 02 Req 09). It is made of 01's own numbers, so that a wrong one of
-- the model is seen.
use Rattle.std.specs.Prelude.{ℕ, ◌/◌, ◌%◌, Bool, length, take}
use Prim.Native.String.{String}
use mathlib.Core.List.{List, [], ◌∷◌, ◌++◌, flatten, map}
use Rattle.bits.specs.Choice.{pick, both}
use Rattle.bits.specs.Loop.{tab}
use Rattle.bits.specs.Word.{put_word}
use Rattle.model.specs.Map.{Image}
use Rattle.model.specs.Night.{printed_text}
use Rattle.model.specs.Stream.{begun, fed_all, streamed}
use Rattle.model.specs.declared.event.Call.{Call}
use Rattle.model.specs.declared.event.Call.TheVariants.{Write, Read, Work, Hardware, Condition, Sample, Lasting, Module, Line}
use Rattle.model.specs.declared.event.Event.{Event}
use Rattle.cases.specs.Same.{same_bytes}
use Rattle.cases.specs.Case.{lines_of, blank, holding}

-- the bytes of a record
unfoldable pub record_of : Call → List ℕ → List ℕ
record_of (Write address count) bytes = 1 ∷ address ∷ count ∷ bytes
record_of (Read address count) bytes = 2 ∷ address ∷ count ∷ []
record_of (Work lane) bytes = 3 ∷ lane ∷ []
record_of (Hardware lane) bytes = 4 ∷ lane ∷ []
record_of (Condition flag mask) bytes = 5 ∷ flag ∷ mask ∷ []
record_of (Sample lane power) bytes = 6 ∷ lane ∷ power / 256 ∷ power % 256 ∷ []
record_of (Lasting flag on off) bytes = 5 ∷ flag ∷ on ∷ off ∷ []
record_of Module bytes = 7 ∷ []
record_of (Line on) bytes = 8 ∷ pick on 1 0 ∷ []

-- .. and zeros, 12 in all
unfoldable pub padded : List ℕ → List ℕ
padded bytes = take 12 (bytes ++ tab 12 (λ i. 0))

unfoldable pub records_of : List Event → List ℕ
records_of [] = []
records_of (e ∷ es) = padded (record_of e.call e.bytes) ++ records_of es

-- a header of an edition whose records begin at an offset
unfoldable pub headed : ℕ → ℕ → ℕ → List ℕ
headed edition offset count = put_word 4 (put_word 4 (put_word 4 (0x57 ∷ 0x4c ∷ edition ∷ tab 13 (λ i. 0)) 4 count) 8 16) 12 offset

-- a file of an edition: its records' offset, so many bytes of an image, and the records of events
unfoldable pub file_in : ℕ → ℕ → ℕ → Image → List Event → List ℕ
file_in edition offset bytes x es = headed edition offset (length es) ++ take bytes x ++ records_of es

-- an edition 1 file carries the image up to page 9Fh
abbrev pub header_of : ℕ → List ℕ
header_of count = headed 1 784 count

abbrev pub file_of : Image → List Event → List ℕ
file_of x es = file_in 1 784 768 x es

-- a flat image: bit 7 of lower byte 2
unfoldable pub flat : Image
flat = holding 2 (0x80 ∷ []) blank

-- ---- what is printed

abbrev pub malformed : List String
malformed = "bad 9" ∷ []

-- what 01 says of a file, which it checks first
unfoldable pub prints_in_one : List ℕ → List String → Bool
prints_in_one file seen = same_bytes (printed_text file) (lines_of seen)

-- what lay in the image that is lent for pieces: bytes that start would refuse
unfoldable pub lent : Image
lent = map (λ b. 0xff) blank

-- the pieces and the end print these lines
unfoldable pub feeds : List (List ℕ) → List String → Bool
feeds pieces seen = same_bytes (fed_all (begun lent) pieces).text (lines_of seen)

-- .. and the table says the same of the joined pieces
unfoldable pub prints : List (List ℕ) → List String → Bool
prints pieces seen = both (feeds pieces seen) (same_bytes (streamed (flatten pieces)) (lines_of seen))
