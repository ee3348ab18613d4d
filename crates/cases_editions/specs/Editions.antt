-- The editions of the night file (02 Req 01, Req 02, Req 04), in one and in pieces: which image each carries, what a condition's record says in each, which has
-- events of the module's power, and headers that belong to none. The numbers are the papers' own.
use Rattle.std.specs.Prelude.{ℕ, Bool, List, [], ◌∷◌, ◌++◌, take}
use Prim.Native.String.{String}
use Rattle.bits.specs.Choice.{both}
use Rattle.cases.specs.Case.{blank, limited, example, read, sample, select_page}
use Rattle.cases.specs.Files.{padded, records_of, headed, file_in, flat, malformed, prints_in_one, prints}

-- a file of 01's example with so many bytes of its image
unfoldable pub example_of : ℕ → ℕ → ℕ → List ℕ
example_of edition offset bytes = file_in edition offset bytes example.image example.events

-- in one and in pieces the same lines
unfoldable pub both_print : List ℕ → List String → Bool
both_print file seen = both (prints_in_one file seen) (prints (file ∷ []) seen)

abbrev pub editions : List Bool
editions =
    -- 01's example prints the same in every edition
    both_print (example_of 1 784 768) example.seen
    ∷ both_print (example_of 2 912 896) example.seen
    ∷ both_print (example_of 3 912 896) example.seen
    ∷ both_print (example_of 4 912 896) example.seen
    -- each with another's offset, and with another's length
    ∷ both_print (example_of 2 784 768) malformed
    ∷ both_print (example_of 3 784 768) malformed
    ∷ both_print (example_of 4 784 768) malformed
    ∷ both_print (example_of 1 912 896) malformed
    -- an edition that there is not
    ∷ both_print (example_of 5 912 896) malformed
    ∷ both_print (example_of 0 784 768) malformed
    -- start sees the image of edition 2
    ∷ both_print (headed 2 912 0 ++ flat) ("bad 2" ∷ [])
    ∷ []

-- ---- records of kind 5

-- two records, then two reads of 11h:135, from a blank image
unfoldable pub sensed : ℕ → ℕ → ℕ → List ℕ → List ℕ → List ℕ
sensed edition offset bytes first second =
    headed edition offset 5 ++ take bytes blank ++ padded first ++ padded second ++ records_of (select_page 0x11 ∷ read 135 1 ∷ read 135 1 ∷ [])

abbrev pub conditions : List Bool
conditions =
    -- a flag byte and a mask: it comes once in editions 1 and 2, and lasts in 3 and 4
    prints_in_one (sensed 1 784 768 (5 ∷ 135 ∷ 0x0f ∷ []) (5 ∷ 135 ∷ 0x30 ∷ [])) ("0 0" ∷ "1 0" ∷ "2 0" ∷ "3 0 3f" ∷ "4 0 00" ∷ [])
    ∷ prints_in_one (sensed 2 912 896 (5 ∷ 135 ∷ 0x0f ∷ []) (5 ∷ 135 ∷ 0x30 ∷ [])) ("0 0" ∷ "1 0" ∷ "2 0" ∷ "3 0 3f" ∷ "4 0 00" ∷ [])
    ∷ prints_in_one (sensed 3 912 896 (5 ∷ 135 ∷ 0x0f ∷ []) (5 ∷ 135 ∷ 0x30 ∷ [])) ("0 0" ∷ "1 0" ∷ "2 0" ∷ "3 0 3f" ∷ "4 0 3f" ∷ [])
    -- an off mask: editions 3 and 4 have it, the first two do not
    ∷ both_print (sensed 3 912 896 (5 ∷ 135 ∷ 0x0f ∷ []) (5 ∷ 135 ∷ 0x30 ∷ 0x3c ∷ [])) ("0 0" ∷ "1 0" ∷ "2 0" ∷ "3 0 3f" ∷ "4 0 33" ∷ [])
    ∷ prints_in_one (sensed 4 912 896 (5 ∷ 135 ∷ 0x0f ∷ []) (5 ∷ 135 ∷ 0x30 ∷ 0x3c ∷ [])) ("0 0" ∷ "1 0" ∷ "2 0" ∷ "3 0 3f" ∷ "4 0 33" ∷ [])
    ∷ prints_in_one (sensed 2 912 896 (5 ∷ 135 ∷ 0x0f ∷ []) (5 ∷ 135 ∷ 0x30 ∷ 0x3c ∷ [])) malformed
    ∷ prints (sensed 2 912 896 (5 ∷ 135 ∷ 0x0f ∷ []) (5 ∷ 135 ∷ 0x30 ∷ 0x3c ∷ []) ∷ []) ("0 0" ∷ "bad 9" ∷ [])
    ∷ prints_in_one (sensed 1 784 768 (5 ∷ 135 ∷ 0x0f ∷ 0x01 ∷ []) (5 ∷ 135 ∷ 0x30 ∷ [])) malformed
    -- past it nothing is used
    ∷ prints_in_one (sensed 3 912 896 (5 ∷ 135 ∷ 0x0f ∷ []) (5 ∷ 135 ∷ 0x30 ∷ 0x3c ∷ 0x01 ∷ [])) malformed
    -- a sample lasts in every edition
    ∷ prints_in_one (file_in 1 784 768 (limited 1000 1000 2000 2000 blank) (sample 0 999 ∷ select_page 0x11 ∷ read 150 1 ∷ read 150 1 ∷ []))
    ("0 0" ∷ "1 0" ∷ "2 0 01" ∷ "3 0 01" ∷ [])
    ∷ []

-- ---- records of kinds 7 and 8

-- two records, then a read of lower 3, from a blank image
unfoldable pub powered : ℕ → List ℕ → List ℕ → List ℕ
powered edition first second = headed edition 912 3 ++ take 896 blank ++ padded first ++ padded second ++ records_of (read 3 1 ∷ [])

abbrev pub powers : List Bool
powers =
    -- two module events: ModuleReady
    both_print (powered 4 (7 ∷ []) (7 ∷ [])) ("0 0" ∷ "1 0" ∷ "2 0 06" ∷ [])
    -- the line is raised, and lowered: one module event is held back, the other is not
    ∷ both_print (powered 4 (8 ∷ 1 ∷ []) (7 ∷ [])) ("0 0" ∷ "1 0" ∷ "2 0 03" ∷ [])
    ∷ both_print (powered 4 (8 ∷ 0 ∷ []) (7 ∷ [])) ("0 0" ∷ "1 0" ∷ "2 0 05" ∷ [])
    -- a line of 2, and of 255
    ∷ prints_in_one (powered 4 (7 ∷ []) (8 ∷ 2 ∷ [])) malformed
    ∷ prints (powered 4 (7 ∷ []) (8 ∷ 2 ∷ []) ∷ []) ("0 0" ∷ "bad 9" ∷ [])
    ∷ prints_in_one (powered 4 (7 ∷ []) (8 ∷ 255 ∷ [])) malformed
    -- past a kind's own bytes nothing is used
    ∷ prints_in_one (powered 4 (7 ∷ 1 ∷ []) (7 ∷ [])) malformed
    ∷ prints_in_one (powered 4 (7 ∷ []) (8 ∷ 1 ∷ 1 ∷ [])) malformed
    -- no earlier edition has them, and the fourth has none past them
    ∷ prints_in_one (powered 3 (7 ∷ []) (3 ∷ 0 ∷ [])) malformed
    ∷ prints (powered 3 (3 ∷ 0 ∷ []) (7 ∷ []) ∷ []) ("0 6" ∷ "bad 9" ∷ [])
    ∷ prints_in_one (powered 3 (8 ∷ 1 ∷ []) (3 ∷ 0 ∷ [])) malformed
    ∷ prints_in_one (powered 2 (7 ∷ []) (3 ∷ 0 ∷ [])) malformed
    ∷ prints_in_one (powered 4 (9 ∷ []) (3 ∷ 0 ∷ [])) malformed
    ∷ []
