-- Worked cases beside the starred ones.
use Rattle.std.specs.Prelude.{ℕ, Bool, List, [], ◌∷◌, ◌++◌, map}
use Rattle.bits.specs.Loop.{tab}
use Rattle.model.specs.Map.{Image}
use Rattle.model.specs.declared.event.Event.{Event}
use Rattle.cases.specs.Case.{holds, changes_nothing, blank, holding, four_lanes, on00, on01, on02, limited, example, write, read, work, hardware, condition, sample, select_page, applied}

-- Applications 9 and 15 of one host lane each: 9 may begin on lane 0 and 15 on lane 7, said in its last byte, 01h:250
abbrev pub nine_and_fifteen : Image
nine_and_fifteen = holding (on01 225) (0x11 ∷ 0x01 ∷ []) (holding (on01 249) (0x11 ∷ 0x80 ∷ []) blank)

-- in an image of `four_lanes`: lanes 0-3 are triggered, and then all lanes are staged anew, with the id of those
unfoldable pub staged_anew : List Event
staged_anew =
    select_page 0x10 ∷ write 145 (0x10 ∷ 0x10 ∷ 0x10 ∷ 0x10 ∷ []) ∷ write 143 (0x0f ∷ [])
    ∷ write 145 (0x11 ∷ 0x11 ∷ 0x11 ∷ 0x11 ∷ 0x11 ∷ 0x11 ∷ 0x11 ∷ 0x11 ∷ []) ∷ []

-- lanes 4-7 staged with one DPConfig and with settings that differ, lane from lane and setting from setting; triggered, and worked through
unfoldable pub applied_above : ℕ → List Event
applied_above config =
    select_page 0x10 ∷ write 149 (config ∷ config ∷ config ∷ config ∷ []) ∷ write 153 (0x90 ∷ []) ∷ write 158 (0x21 ∷ 0x43 ∷ 0x60 ∷ 0x30 ∷ [])
    ∷ write 164 (0x65 ∷ 0x87 ∷ []) ∷ write 168 (0xa9 ∷ 0xcb ∷ []) ∷ write 172 (0x10 ∷ 0x32 ∷ []) ∷ write 143 (0xf0 ∷ []) ∷ tab 5 (λ i. work 4)

-- Application 1 of `four_lanes` in a module that offers just those settings
abbrev pub offering : Image
offering = holding (on01 153) (0xf4 ∷ 0xc8 ∷ []) four_lanes

-- pages 00h, 01h and 02h, each with a first byte of its own
abbrev pub told_apart : Image
told_apart = holding (on00 128) (0xc0 ∷ []) (holding (on01 128) (0xc1 ∷ []) (holding (on02 128) (0xc2 ∷ []) blank))

abbrev pub ones : List ℕ
ones = tab 8 (λ i. 0xff)

abbrev pub worked : List Bool
worked =
    holds example
    -- a group with a lane in progress is ignored whole: lanes 4-7 join the id that lanes 0-3 have in progress
    ∷ holds (record {
      image = four_lanes;
      events =
          select_page 0x10 ∷ write 145 (0x10 ∷ 0x10 ∷ 0x10 ∷ 0x10 ∷ 0x10 ∷ 0x10 ∷ 0x10 ∷ 0x10 ∷ []) ∷ write 143 (0x0f ∷ [])
          ∷ write 143 (0xff ∷ []) ∷ select_page 0x11 ∷ read 202 4 ∷ work 5 ∷ [];
      seen = "0 0" ∷ "1 0" ∷ "2 0" ∷ "3 0" ∷ "4 0" ∷ "5 0 cc cc 00 00" ∷ "6 6" ∷ [];
    })
    -- .. and what lanes 0-3 hold stays, though all lanes are staged otherwise by then
    ∷ changes_nothing four_lanes staged_anew (write 143 (0xff ∷ []))
    -- ExplicitControl 1 on lanes 4-7: what was staged is copied, each setting to its own place
    ∷ holds (record {
      image = offering;
      events = applied_above 0x19 ++ (select_page 0x11 ∷ read 202 34 ∷ []);
      seen =
          "0 0" ∷ "1 0" ∷ "2 0" ∷ "3 0" ∷ "4 0" ∷ "5 0" ∷ "6 0" ∷ "7 0" ∷ "8 0" ∷ "9 0" ∷ "10 0" ∷ "11 0" ∷ "12 0" ∷ "13 0"
          ∷ "14 0 00 00 11 11 00 00 00 00 19 19 19 19 90 00 00 00 00 21 43 60 30 00 00 65 87 00 00 a9 cb 00 00 10 32 f0" ∷ [];
    })
    -- ExplicitControl 0 over what was active then: bits 1, nibbles 0
    ∷ holds (record {
      image = offering;
      events =
          applied_above 0x19 ++ (write 149 (0x18 ∷ 0x18 ∷ 0x18 ∷ 0x18 ∷ []) ∷ write 143 (0xf0 ∷ []) ∷ work 4 ∷ work 4 ∷ work 4 ∷ work 4 ∷ work 4
          ∷ select_page 0x11 ∷ read 202 34 ∷ []);
      seen =
          "0 0" ∷ "1 0" ∷ "2 0" ∷ "3 0" ∷ "4 0" ∷ "5 0" ∷ "6 0" ∷ "7 0" ∷ "8 0" ∷ "9 0" ∷ "10 0" ∷ "11 0" ∷ "12 0" ∷ "13 0" ∷ "14 0" ∷ "15 0"
          ∷ "16 0" ∷ "17 0" ∷ "18 0" ∷ "19 0" ∷ "20 0"
          ∷ "21 0 00 00 11 11 00 00 00 00 18 18 18 18 f0 00 00 00 00 00 00 f0 f0 00 00 00 00 00 00 00 00 00 00 00 00 f0" ∷ [];
    })
    -- a release over it: zeros, and nothing pending, by ApplyImmediate too
    ∷ holds (record {
      image = offering;
      events =
          applied_above 0x19 ++ (write 149 (0x09 ∷ 0x09 ∷ 0x09 ∷ 0x09 ∷ []) ∷ write 144 (0xf0 ∷ []) ∷ work 4 ∷ work 4 ∷ work 4 ∷ work 4 ∷ work 4
          ∷ select_page 0x11 ∷ read 202 34 ∷ []);
      seen =
          "0 0" ∷ "1 0" ∷ "2 0" ∷ "3 0" ∷ "4 0" ∷ "5 0" ∷ "6 0" ∷ "7 0" ∷ "8 0" ∷ "9 0" ∷ "10 0" ∷ "11 0" ∷ "12 0" ∷ "13 0" ∷ "14 0" ∷ "15 0"
          ∷ "16 0" ∷ "17 0" ∷ "18 0" ∷ "19 0" ∷ "20 0"
          ∷ "21 0 00 00 11 11 00 00 00 00 00 00 00 00 00 00 00 00 00 00 00 00 00 00 00 00 00 00 00 00 00 00 00 00 00 00" ∷ [];
    })
    -- an input EQ of 4 where the limit is 3: 5, and nothing is copied
    ∷ holds (record {
      image = holding (on01 153) (0xf3 ∷ 0xff ∷ []) four_lanes;
      events =
          select_page 0x10 ∷ write 149 (0x19 ∷ 0x19 ∷ 0x19 ∷ 0x19 ∷ []) ∷ write 153 (0xa0 ∷ []) ∷ write 158 (0x21 ∷ 0x43 ∷ 0x50 ∷ 0xf0 ∷ [])
          ∷ write 164 (0x65 ∷ 0x87 ∷ []) ∷ write 168 (0xa9 ∷ 0xcb ∷ []) ∷ write 172 (0x10 ∷ 0x32 ∷ []) ∷ write 143 (0xf0 ∷ []) ∷ work 6
          ∷ select_page 0x11 ∷ read 202 34 ∷ [];
      seen =
          "0 0" ∷ "1 0" ∷ "2 0" ∷ "3 0" ∷ "4 0" ∷ "5 0" ∷ "6 0" ∷ "7 0" ∷ "8 0" ∷ "9 0"
          ∷ "10 0 00 00 55 55 00 00 00 00 00 00 00 00 00 00 00 00 00 00 00 00 00 00 00 00 00 00 00 00 00 00 00 00 00 00" ∷ [];
    })
    -- AppSel 9, present: 1
    ∷ holds (record {
      image = nine_and_fifteen;
      events = applied 145 (0x90 ∷ []) 0x01 0 ++ (work 0 ∷ read 202 5 ∷ []);
      seen = "0 0" ∷ "1 0" ∷ "2 0" ∷ "3 0" ∷ "4 0" ∷ "5 0 0c 00 00 00" ∷ "6 0" ∷ "7 0 01 00 00 00 90" ∷ [];
    })
    -- .. behind an FFh at 8: 3
    ∷ holds (record {
      image = holding 114 (0xff ∷ []) nine_and_fifteen;
      events = applied 145 (0x90 ∷ []) 0x01 0;
      seen = "0 0" ∷ "1 0" ∷ "2 0" ∷ "3 0" ∷ "4 0" ∷ "5 0 03 00 00 00" ∷ [];
    })
    -- .. behind an FFh at 1: 3
    ∷ holds (record {
      image = holding 86 (0xff ∷ []) nine_and_fifteen;
      events = applied 145 (0x90 ∷ []) 0x01 0;
      seen = "0 0" ∷ "1 0" ∷ "2 0" ∷ "3 0" ∷ "4 0" ∷ "5 0 03 00 00 00" ∷ [];
    })
    -- AppSel 15, present: 4 on lane 6, which 01h:250 does not allow, and 1 on lane 7
    ∷ holds (record {
      image = nine_and_fifteen;
      events = applied 151 (0xfc ∷ 0xfe ∷ []) 0xc0 6 ++ (work 7 ∷ work 7 ∷ read 202 4 ∷ read 212 2 ∷ []);
      seen = "0 0" ∷ "1 0" ∷ "2 0" ∷ "3 0" ∷ "4 0" ∷ "5 0 00 00 00 c4" ∷ "6 0" ∷ "7 0" ∷ "8 0 00 00 00 14" ∷ "9 0 00 fe" ∷ [];
    })
    -- .. with host count 0: 3
    ∷ holds (record {
      image = holding (on01 249) (0x01 ∷ []) nine_and_fifteen;
      events = applied 152 (0xfe ∷ []) 0x80 7;
      seen = "0 0" ∷ "1 0" ∷ "2 0" ∷ "3 0" ∷ "4 0" ∷ "5 0 00 00 00 30" ∷ [];
    })
    -- .. with host count 9, before lanes that do not fit: 3
    ∷ holds (record {
      image = holding (on01 249) (0x91 ∷ []) nine_and_fifteen;
      events = applied 152 (0xfe ∷ []) 0x80 7;
      seen = "0 0" ∷ "1 0" ∷ "2 0" ∷ "3 0" ∷ "4 0" ∷ "5 0 00 00 00 30" ∷ [];
    })
    -- start keeps lower 0-2, 39-40 and 85-117 and pages 00h to 02h; lower 3 is 03h, 26 is 40h, 11h:128-131 are 11h, the rest is 0
    ∷ holds (record {
      image = map (λ b. 0x2a) blank;
      events =
          read 0 8 ∷ read 25 3 ∷ read 36 8 ∷ read 82 8 ∷ read 112 8 ∷ read 126 2 ∷ read 128 1 ∷ read 255 1 ∷ select_page 0x01 ∷ read 255 1 ∷ select_page 0x02
          ∷ read 255 1 ∷ select_page 0x10 ∷ read 128 8 ∷ select_page 0x11 ∷ read 128 8 ∷ read 248 8 ∷ [];
      seen =
          "0 0 2a 2a 2a 03 00 00 00 00" ∷ "1 0 00 40 00" ∷ "2 0 00 00 00 2a 2a 00 00 00" ∷ "3 0 00 00 00 2a 2a 2a 2a 2a"
          ∷ "4 0 2a 2a 2a 2a 2a 2a 00 00" ∷ "5 0 00 00" ∷ "6 0 2a" ∷ "7 0 2a" ∷ "8 0" ∷ "9 0 2a" ∷ "10 0" ∷ "11 0 2a" ∷ "12 0"
          ∷ "13 0 00 00 00 00 00 00 00 00" ∷ "14 0" ∷ "15 0 11 11 11 11 00 00 00 00" ∷ "16 0 00 00 00 00 00 00 00 00" ∷ [];
    })
    -- the host may write 10h:128-132, 137-139, up to 153, from 156 to 173, and 213-232, nothing of 02h and 11h
    ∷ holds (record {
      image = blank;
      events =
          select_page 0x10 ∷ write 128 ones ∷ write 135 ones ∷ write 150 ones ∷ write 170 ones ∷ write 210 ones ∷ write 229 ones ∷ read 128 15
          ∷ read 150 8 ∷ read 170 8 ∷ read 210 8 ∷ read 229 8 ∷ select_page 0x02 ∷ write 192 ones ∷ read 192 8 ∷ select_page 0x11 ∷ write 128 ones
          ∷ read 128 8 ∷ [];
      seen =
          "0 0" ∷ "1 0" ∷ "2 0" ∷ "3 0" ∷ "4 0" ∷ "5 0" ∷ "6 0" ∷ "7 0 ff ff ff ff ff 00 00 00 00 ff ff ff 00 00 00"
          ∷ "8 0 ff ff ff ff 00 00 ff ff" ∷ "9 0 ff ff ff ff 00 00 00 00" ∷ "10 0 00 00 00 ff ff ff ff ff" ∷ "11 0 ff ff ff ff 00 00 00 00" ∷ "12 0"
          ∷ "13 0" ∷ "14 0 00 00 00 00 00 00 00 00" ∷ "15 0" ∷ "16 0" ∷ "17 0 11 11 11 11 00 00 00 00" ∷ [];
    })
    -- accesses: no bytes, past 127 and past 255 by one: 4; of bytes 30-37 the host may write 31-36, and the access goes on past the others
    ∷ holds (record {
      image = blank;
      events =
          write 31 [] ∷ read 127 2 ∷ write 249 (1 ∷ 2 ∷ 3 ∷ 4 ∷ 5 ∷ 6 ∷ 7 ∷ 8 ∷ []) ∷ write 30 (1 ∷ 2 ∷ 3 ∷ 4 ∷ 5 ∷ 6 ∷ 7 ∷ 8 ∷ []) ∷ read 30 8 ∷ [];
      seen = "0 4" ∷ "1 4" ∷ "2 4" ∷ "3 0" ∷ "4 0 00 02 03 04 05 06 07 00" ∷ [];
    })
    -- pages: 126 alone is stored; 10h and 11h need bank 0, and 00h stands in; 00h to 02h need none; a bad page resets both, in any bank
    ∷ holds (record {
      image = told_apart;
      events =
          select_page 0x10 ∷ write 128 (0xaa ∷ []) ∷ write 126 (0x01 ∷ []) ∷ read 126 2 ∷ read 128 1 ∷ write 126 (0x00 ∷ []) ∷ read 128 1
          ∷ select_page 0x0f ∷ read 126 2 ∷ write 126 (0x01 ∷ 0x11 ∷ []) ∷ read 126 2 ∷ read 128 1 ∷ write 126 (0x07 ∷ 0x01 ∷ []) ∷ read 128 1
          ∷ select_page 0x00 ∷ read 126 2 ∷ select_page 0x02 ∷ read 126 2 ∷ read 128 1 ∷ select_page 0x05 ∷ read 126 2 ∷ [];
      seen =
          "0 0" ∷ "1 0" ∷ "2 0" ∷ "3 0 01 10" ∷ "4 0 c0" ∷ "5 0" ∷ "6 0 aa" ∷ "7 0" ∷ "8 0 00 00" ∷ "9 0" ∷ "10 0 00 00" ∷ "11 0 c0" ∷ "12 0"
          ∷ "13 0 c1" ∷ "14 0" ∷ "15 0 07 00" ∷ "16 0" ∷ "17 0 07 02" ∷ "18 0 c2" ∷ "19 0" ∷ "20 0 00 00" ∷ [];
    })
    -- flags, masks and lower 3.0: a condition that comes once, a sample above both high limits, which lasts, and reads that clear what they show
    ∷ holds (record {
      image = holding (on02 192) (0x00 ∷ 0x64 ∷ 0x00 ∷ 0x0a ∷ 0x00 ∷ 0x50 ∷ 0x00 ∷ 0x14 ∷ []) blank;
      events =
          condition 136 0x81 ∷ read 3 1 ∷ sample 7 101 ∷ select_page 0x10 ∷ write 213 (0x00 ∷ 0x00 ∷ 0xff ∷ []) ∷ write 221 (0x00 ∷ []) ∷ read 3 1
          ∷ write 228 (0x80 ∷ []) ∷ write 230 (0x80 ∷ []) ∷ read 3 1 ∷ write 230 (0x7f ∷ []) ∷ read 3 1 ∷ select_page 0x11 ∷ read 136 1
          ∷ read 134 20 ∷ read 3 1 ∷ read 200 2 ∷ read 134 20 ∷ condition 134 0x01 ∷ hardware 9 ∷ sample 8 1 ∷ work 8 ∷ [];
      seen =
          "0 0" ∷ "1 0 02" ∷ "2 0" ∷ "3 0" ∷ "4 0" ∷ "5 0" ∷ "6 0 02" ∷ "7 0" ∷ "8 0" ∷ "9 0 03" ∷ "10 0" ∷ "11 0 02" ∷ "12 0" ∷ "13 0 81"
          ∷ "14 0 00 00 00 00 00 00 00 00 00 00 00 00 00 00 00 80 00 80 00 00" ∷ "15 0 02" ∷ "16 0 00 65"
          ∷ "17 0 00 00 00 00 00 00 00 00 00 00 00 00 00 00 00 80 00 80 00 00" ∷ "18 8" ∷ "19 8" ∷ "20 8" ∷ "21 8" ∷ [];
    })
    -- samples at each limit and one beyond it, a lane each
    ∷ holds (record {
      image = limited 261 515 1025 1282 blank;
      events =
          sample 0 1282 ∷ sample 1 1283 ∷ sample 2 1025 ∷ sample 3 1026 ∷ sample 4 515 ∷ sample 5 514 ∷ sample 6 261 ∷ sample 7 260
          ∷ select_page 0x11 ∷ read 149 4 ∷ read 186 16 ∷ [];
      seen =
          "0 0" ∷ "1 0" ∷ "2 0" ∷ "3 0" ∷ "4 0" ∷ "5 0" ∷ "6 0" ∷ "7 0" ∷ "8 0" ∷ "9 0 02 80 0b e0"
          ∷ "10 0 05 02 05 03 04 01 04 02 02 03 02 02 01 05 01 04" ∷ [];
    })
    -- conditions: 135-138, 147 and 148, and none beside them
    ∷ holds (record {
      image = blank;
      events =
          condition 134 0x01 ∷ condition 135 0x02 ∷ condition 138 0x04 ∷ condition 139 0x08 ∷ condition 146 0x10 ∷ condition 147 0x20
          ∷ condition 148 0x40 ∷ condition 149 0x80 ∷ select_page 0x11 ∷ read 134 16 ∷ [];
      seen =
          "0 8" ∷ "1 0" ∷ "2 0" ∷ "3 8" ∷ "4 8" ∷ "5 0" ∷ "6 0" ∷ "7 8" ∷ "8 0" ∷ "9 0 00 02 00 00 04 00 00 00 00 00 00 00 00 20 40 00" ∷ [];
    })
    -- Req 08, start: low alarm above low warning is 10, equal is taken
    ∷ holds (record { image = limited 257 256 900 999 blank; events = read 3 1 ∷ []; seen = "bad 10" ∷ [] })
    ∷ holds (record { image = limited 256 256 900 999 blank; events = read 3 1 ∷ []; seen = "0 0 03" ∷ [] })
    -- .. low warning above high warning
    ∷ holds (record { image = limited 100 512 511 999 blank; events = read 3 1 ∷ []; seen = "bad 10" ∷ [] })
    ∷ holds (record { image = limited 100 511 511 999 blank; events = read 3 1 ∷ []; seen = "0 0 03" ∷ [] })
    -- .. high warning above high alarm
    ∷ holds (record { image = limited 100 200 768 767 blank; events = read 3 1 ∷ []; seen = "bad 10" ∷ [] })
    ∷ holds (record { image = limited 100 200 767 767 blank; events = read 3 1 ∷ []; seen = "0 0 03" ∷ [] })
    -- .. all equal, at the top
    ∷ holds (record { image = limited 65535 65535 65535 65535 blank; events = read 3 1 ∷ []; seen = "0 0 03" ∷ [] })
    -- .. flat and back to front: 2 comes first
    ∷ holds (record { image = holding 2 (0x80 ∷ []) (limited 4 3 2 1 blank); events = read 3 1 ∷ []; seen = "bad 2" ∷ [] })
    ∷ []
