-- Nights in pieces (02 Req 09): both sides of each line of the table of what is printed, and when it is printed. The places in a file are 01's own numbers, so that a
-- wrong one of the model is seen: the header is bytes 0 to 15, the image 16 to 783, and the records begin at 784, 796 and 808.
use Rattle.std.specs.Prelude.{ℕ, ◌-◌, ◌%◌, Bool, true, List, [], ◌∷◌, ◌++◌, map, take, drop, set}
use Prim.Native.String.{String}
use Rattle.bits.specs.Choice.{both}
use Rattle.bits.specs.Loop.{tab}
use Rattle.model.specs.Map.{Image, image_length}
use Rattle.model.specs.Stream.{Carried, Took, begun, ended, fed, fed_all, streamed}
use Rattle.model.specs.declared.event.Event.{Event}
use Rattle.cases.specs.Same.{same_bytes}
use Rattle.cases.specs.Case.{lines_of, blank, four_lanes, limited, example, read, work, select_page}
use Rattle.cases.specs.Files.{padded, records_of, header_of, file_of, flat, malformed, prints_in_one, lent, feeds, prints}

-- ---- files

-- lane 0 has no work, there is no lane 9, and lower 0 is read
unfoldable pub three : List Event
three = work 0 ∷ work 9 ∷ read 0 1 ∷ []

-- .. on the image of 01's example, whose lower 0 is 00h
unfoldable pub night : List ℕ
night = file_of four_lanes three

abbrev pub night_seen : List String
night_seen = "0 6" ∷ "1 8" ∷ "2 0 00" ∷ []

-- .. under a header that counts another number of records
unfoldable pub counting : ℕ → List ℕ
counting count = header_of count ++ take 768 four_lanes ++ records_of three

-- a byte more
unfoldable pub longer : List ℕ → List ℕ
longer file = file ++ (0 ∷ [])

-- every byte tells its place in its half, but for the limits
unfoldable pub numbered : Image
numbered = limited 1 2 3 4 (tab image_length (λ i. i % 128))

-- reads of bytes that start keeps, near both ends of each range
abbrev pub kept_reads : List Event
kept_reads = read 0 3 ∷ read 39 2 ∷ read 85 8 ∷ read 110 8 ∷ read 128 8 ∷ select_page 0x02 ∷ read 192 8 ∷ read 248 8 ∷ []

abbrev pub kept_seen : List String
kept_seen =
    "0 0 00 01 02" ∷ "1 0 27 28" ∷ "2 0 55 56 57 58 59 5a 5b 5c" ∷ "3 0 6e 6f 70 71 72 73 74 75" ∷ "4 0 00 01 02 03 04 05 06 07" ∷ "5 0"
    ∷ "6 0 00 04 00 01 00 03 00 02" ∷ "7 0 78 79 7a 7b 7c 7d 7e 7f" ∷ []

-- limits back to front
unfoldable pub back_to_front : Image
back_to_front = limited 4 3 2 1 blank

-- ---- pieces

-- pieces of these lengths, and the rest
unfoldable pub cut : List ℕ → List ℕ → List (List ℕ)
cut [] bytes = bytes ∷ []
cut (n ∷ ns) bytes = take n bytes ∷ cut ns (drop n bytes)

unfoldable pub byte_by_byte : List ℕ → List (List ℕ)
byte_by_byte bytes = map (λ b. b ∷ []) bytes

-- ---- what is seen

-- a stop, when so many bytes of a file have come: the lines since the stop before, and what the end would print here
pub record Stop : Type 0 where
  pub after : ℕ
  pub lines : List String
  pub end : List String

abbrev pub stop : ℕ → List String → List String → Stop
stop after lines end = record { after = after; lines = lines; end = end }

-- from stop to stop a file prints these lines, and the table says the same of its bytes up to each stop
unfoldable pub prints_from : Carried → ℕ → List String → List ℕ → List Stop → Bool
prints_from c come seen file [] = true
prints_from c come seen file (s ∷ stops) =
    let t = fed c (take (s.after - come) (drop come file)) in
    both (both (same_bytes t.text (lines_of s.lines)) (same_bytes (ended t.carried).text (lines_of s.end)))
    (both (same_bytes (streamed (take s.after file)) (lines_of (seen ++ s.lines ++ s.end)))
    (prints_from t.carried s.after (seen ++ s.lines) file stops))

-- .. from its first byte on
abbrev pub prints_at : List ℕ → List Stop → Bool
prints_at file stops = prints_from (begun lent) 0 [] file stops

-- ---- the cases

-- `night` and more: a line when its record is whole, 9 at each end before the last record is, 9 at a byte more, and then nothing
abbrev pub borders : List Stop
borders =
    -- the header
    stop 0 [] malformed
    ∷ stop 1 [] malformed
    ∷ stop 15 [] malformed
    ∷ stop 16 [] malformed
    -- the image, and a piece of no bytes
    ∷ stop 783 [] malformed
    ∷ stop 784 [] malformed
    ∷ stop 784 [] malformed
    -- the records
    ∷ stop 785 [] malformed
    ∷ stop 795 [] malformed
    ∷ stop 796 ("0 6" ∷ []) malformed
    ∷ stop 807 [] malformed
    ∷ stop 808 ("1 8" ∷ []) malformed
    ∷ stop 819 [] malformed
    ∷ stop 820 ("2 0 00" ∷ []) []
    -- what is too much
    ∷ stop 821 malformed []
    ∷ stop 1640 [] []
    ∷ []

-- a wrong byte in the header: 9 when the header is whole, and nothing after it
unfoldable pub misheaded : ℕ → ℕ → Bool
misheaded i v = prints_at (set night i v) (stop 15 [] malformed ∷ stop 16 malformed [] ∷ stop 820 [] [] ∷ [])

-- kinds 0 and 7, and of each kind the first byte that it does not use; of a write the last one too
abbrev pub no_records : List (List ℕ)
no_records =
    (0 ∷ []) ∷ (7 ∷ []) ∷ (1 ∷ 31 ∷ 1 ∷ 1 ∷ 1 ∷ []) ∷ (1 ∷ 31 ∷ 1 ∷ 1 ∷ 0 ∷ 0 ∷ 0 ∷ 0 ∷ 0 ∷ 0 ∷ 0 ∷ 1 ∷ []) ∷ (2 ∷ 31 ∷ 1 ∷ 1 ∷ []) ∷ (3 ∷ 0 ∷ 1 ∷ [])
    ∷ (4 ∷ 0 ∷ 1 ∷ []) ∷ (5 ∷ 136 ∷ 1 ∷ 1 ∷ []) ∷ (6 ∷ 0 ∷ 1 ∷ 1 ∷ 1 ∷ []) ∷ []

-- each of them the second of three records: the line of the first, then 9, and no line of the third. What comes before the records is fed once
unfoldable pub none_taken : List ℕ → Took → List (List ℕ) → Bool
none_taken front t [] = true
none_taken front t (bytes ∷ others) =
    let records = padded (3 ∷ []) ++ padded bytes ++ padded (3 ∷ []) in
    let seen = lines_of ("0 6" ∷ "bad 9" ∷ []) in
    both (both (same_bytes (t.text ++ (fed_all t.carried (records ∷ [])).text) seen) (same_bytes (streamed (front ++ records)) seen))
    (none_taken front t others)

abbrev pub nights : List Bool
nights =
    -- all is well: in one piece; in pieces of 0, 5, 0, 785 bytes and the rest; byte by byte; in one
    prints (night ∷ []) night_seen
    ∷ prints (cut (0 ∷ 5 ∷ 0 ∷ 785 ∷ []) night) night_seen
    ∷ prints (byte_by_byte night) night_seen
    ∷ prints_in_one night night_seen
    -- the example of 01, in pieces of 13 bytes
    ∷ prints (cut (tab 75 (λ i. 13)) (file_of example.image example.events)) example.seen
    -- each byte of the image comes to its place
    ∷ prints (cut (100 ∷ 1 ∷ 400 ∷ []) (file_of numbered kept_reads)) kept_seen
    -- no byte at all: no piece, and pieces of none
    ∷ prints [] malformed
    ∷ prints ([] ∷ []) malformed
    ∷ prints ([] ∷ [] ∷ [] ∷ []) malformed
    ∷ prints_in_one [] malformed
    -- the end in each place, and a whole good night after the first
    ∷ prints_at (night ++ night) borders
    ∷ prints_in_one (take 819 night) malformed
    ∷ prints_in_one (longer night) malformed
    -- .. in one piece: without its last byte, with a byte more
    ∷ prints (take 819 night ∷ []) ("0 6" ∷ "1 8" ∷ "bad 9" ∷ [])
    ∷ prints (longer night ∷ []) ("0 6" ∷ "1 8" ∷ "2 0 00" ∷ "bad 9" ∷ [])
    -- kind FFh in the third record, and a whole good night after it
    ∷ prints_at (set night 808 0xff ++ night) (stop 808 ("0 6" ∷ "1 8" ∷ []) malformed ∷ stop 819 [] malformed ∷ stop 820 malformed [] ∷ stop 1640 [] [] ∷ [])
    -- what is no record, after the header and the image of `night`
    ∷ (let front = take 784 night in none_taken front (fed (begun lent) front) no_records)
    -- no records: nothing is printed; 9 at a byte more
    ∷ prints_at (longer (file_of four_lanes [])) (stop 783 [] malformed ∷ stop 784 [] [] ∷ stop 785 malformed [] ∷ [])
    -- fewer records counted than there are
    ∷ prints_at (counting 2) (stop 808 ("0 6" ∷ "1 8" ∷ []) [] ∷ stop 809 malformed [] ∷ stop 820 [] [] ∷ [])
    -- more records counted than a file may have in one. Of the largest count the pieces alone: for the table the checker would go through all that is counted
    ∷ prints_at (counting 5001) (stop 784 [] malformed ∷ stop 820 night_seen malformed ∷ [])
    ∷ prints_in_one (counting 5001) malformed
    ∷ feeds (counting 4294967295 ∷ []) ("0 6" ∷ "1 8" ∷ "2 0 00" ∷ "bad 9" ∷ [])
    -- the header: "WL", the editions beside the first, 0, both offsets
    ∷ misheaded 0 0x56
    ∷ misheaded 1 0x4d
    ∷ misheaded 2 0x00
    ∷ misheaded 2 0x02
    ∷ misheaded 3 0x01
    ∷ misheaded 8 0x01
    ∷ misheaded 11 0x11
    ∷ misheaded 12 0x01
    ∷ misheaded 15 0x11
    ∷ []

-- an image that start refuses: 9 where it ends early; its own line when it is whole, and nothing after it, whatever follows
unfoldable pub refusing : Image → String → List Bool
refusing x bad =
    prints (file_of x three ∷ []) (bad ∷ [])
    -- what follows is malformed: a record, and a byte more
    ∷ prints_at (longer (set (file_of x three) 784 0xff)) (stop 783 [] malformed ∷ stop 784 (bad ∷ []) [] ∷ stop 785 [] [] ∷ stop 820 [] [] ∷ stop 821 [] [] ∷ [])
    -- no records, and a byte more
    ∷ prints_at (longer (file_of x [])) (stop 783 [] malformed ∷ stop 784 (bad ∷ []) [] ∷ stop 785 [] [] ∷ [])
    -- in one, what is malformed comes first
    ∷ prints_in_one (file_of x three) (bad ∷ [])
    ∷ prints_in_one (longer (file_of x three)) malformed
    -- a wrong header comes first in both
    ∷ prints_at (set (file_of x three) 0 0x56) (stop 15 [] malformed ∷ stop 16 malformed [] ∷ stop 784 [] [] ∷ stop 820 [] [] ∷ [])
    ∷ []

-- a flat image, and limits back to front
abbrev pub refused_nights : List Bool
refused_nights = refusing flat "bad 2" ++ refusing back_to_front "bad 10"
