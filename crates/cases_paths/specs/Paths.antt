-- Paths on their way through the states, both sides of each line, and what hardware events get (01 "Paths and flags", 02 Req 06).
use Rattle.std.specs.Prelude.{ℕ, Bool, List, [], ◌∷◌, ◌++◌}
use Prim.Native.String.{String}
use Rattle.bits.specs.Loop.{tab}
use Rattle.model.specs.Map.{Image}
use Rattle.model.specs.declared.event.Event.{Event}
use Rattle.cases.specs.Case.{holds_ready, blank, holding, four_lanes, write, read, work, hardware, select_page}

-- Application 1 with 2 host lanes, which may begin on every even lane
unfoldable pub two_lanes : Image
two_lanes = holding 88 (0x22 ∷ 0x55 ∷ []) blank

-- in an image of `two_lanes`: lanes 0 and 1 become a path, and n hardware events move it; page 10h is selected
unfoldable pub walked : ℕ → List Event
walked n = select_page 0x10 ∷ write 145 (0x10 ∷ 0x10 ∷ []) ∷ write 143 (0x03 ∷ []) ∷ work 0 ∷ work 0 ∷ work 0 ∷ tab n (λ i. hardware 0)

-- .. to DPActivated; then a byte of page 10h mutes lane 1, the path goes down and waits, the byte is cleared, and the path comes back
unfoldable pub muted : ℕ → List Event
muted address =
    walked 4 ++ (write address (0x02 ∷ []) ∷ hardware 0 ∷ select_page 0x11 ∷ read 128 1 ∷ hardware 1 ∷ read 128 7 ∷ hardware 0 ∷ read 128 7
    ∷ select_page 0x10 ∷ write address (0x00 ∷ []) ∷ hardware 0 ∷ hardware 0 ∷ select_page 0x11 ∷ read 128 7 ∷ [])

abbrev pub muted_seen : List String
muted_seen =
    "0 0" ∷ "1 0" ∷ "2 0" ∷ "3 0" ∷ "4 0" ∷ "5 0" ∷ "6 0" ∷ "7 0" ∷ "8 0" ∷ "9 0" ∷ "10 0" ∷ "11 0" ∷ "12 0" ∷ "13 0 66" ∷ "14 0"
    ∷ "15 0 77 11 11 11 00 00 03" ∷ "16 0" ∷ "17 0 77 11 11 11 00 00 00" ∷ "18 0" ∷ "19 0" ∷ "20 0" ∷ "21 0" ∷ "22 0"
    ∷ "23 0 44 11 11 11 00 00 03" ∷ []

abbrev pub paths : List Bool
paths =
    -- a path walks to DPActivated; its release is 6 while it is not DPDeactivated, 7 where a lane is missing; it winds down, stays, and is released
    holds_ready (record {
      image = four_lanes;
      events =
          select_page 0x10 ∷ write 145 (0x10 ∷ 0x10 ∷ 0x10 ∷ 0x10 ∷ []) ∷ write 143 (0x0f ∷ []) ∷ work 0 ∷ work 0 ∷ work 0 ∷ work 0 ∷ work 0 ∷ hardware 0
          ∷ hardware 1 ∷ hardware 2 ∷ hardware 3 ∷ select_page 0x11 ∷ read 128 8 ∷ read 235 1 ∷ select_page 0x10
          ∷ write 145 (0x00 ∷ 0x00 ∷ 0x00 ∷ 0x00 ∷ []) ∷ write 143 (0x0f ∷ []) ∷ work 0 ∷ write 144 (0x07 ∷ []) ∷ work 2 ∷ write 128 (0x01 ∷ [])
          ∷ hardware 0 ∷ hardware 0 ∷ hardware 0 ∷ hardware 0 ∷ hardware 0 ∷ select_page 0x11 ∷ read 128 7 ∷ read 202 4 ∷ select_page 0x10
          ∷ write 144 (0x0f ∷ []) ∷ work 3 ∷ work 3 ∷ work 3 ∷ work 3 ∷ work 3 ∷ hardware 0 ∷ select_page 0x11 ∷ read 202 34 ∷ [];
      seen =
          "0 0" ∷ "1 0" ∷ "2 0" ∷ "3 0" ∷ "4 0" ∷ "5 0" ∷ "6 0" ∷ "7 0" ∷ "8 0" ∷ "9 0" ∷ "10 0" ∷ "11 0" ∷ "12 0" ∷ "13 0 44 44 11 11 00 00 0f 00"
          ∷ "14 0 00" ∷ "15 0" ∷ "16 0" ∷ "17 0" ∷ "18 0" ∷ "19 0" ∷ "20 0" ∷ "21 0" ∷ "22 0" ∷ "23 0" ∷ "24 0" ∷ "25 0" ∷ "26 0" ∷ "27 0"
          ∷ "28 0 11 11 11 11 00 00 0f" ∷ "29 0 77 67 00 00" ∷ "30 0" ∷ "31 0" ∷ "32 0" ∷ "33 0" ∷ "34 0" ∷ "35 0" ∷ "36 0" ∷ "37 6" ∷ "38 0"
          ∷ "39 0 11 11 00 00 00 00 00 00 00 00 00 00 00 00 00 00 00 00 00 00 00 00 00 00 00 00 00 00 00 00 00 00 00 00" ∷ [];
    })
    -- OutputDisableTx of one lane takes a whole path out of DPActivated and keeps it in DPInitialized, where it sets no bit in 134; enabled again it is back (Req 06)
    ∷ holds_ready (record { image = two_lanes; events = muted 130; seen = muted_seen })
    -- .. and so does OutputSquelchForceTx
    ∷ holds_ready (record { image = two_lanes; events = muted 132; seen = muted_seen })
    -- .. but not a lane outside the path, nor bytes 129 and 131: the path walks to DPActivated and stays
    ∷ holds_ready (record {
      image = two_lanes;
      events = select_page 0x10 ∷ write 129 (0xff ∷ 0xfc ∷ 0xff ∷ 0xfc ∷ []) ∷ walked 5 ++ (select_page 0x11 ∷ read 128 1 ∷ []);
      seen =
          "0 0" ∷ "1 0" ∷ "2 0" ∷ "3 0" ∷ "4 0" ∷ "5 0" ∷ "6 0" ∷ "7 0" ∷ "8 0" ∷ "9 0" ∷ "10 0" ∷ "11 0" ∷ "12 0" ∷ "13 0" ∷ "14 0 44" ∷ [];
    })
    -- DPTxTurnOn is left as well, through DPTxTurnOff; and in DPInitialized what is pending goes first: the muted path is brought up anew
    ∷ holds_ready (record {
      image = two_lanes;
      events =
          walked 3 ++ (write 132 (0x01 ∷ []) ∷ hardware 0 ∷ select_page 0x11 ∷ read 128 1 ∷ hardware 0 ∷ read 128 1 ∷ select_page 0x10
          ∷ write 143 (0x03 ∷ []) ∷ work 0 ∷ work 0 ∷ work 0 ∷ hardware 0 ∷ select_page 0x11 ∷ read 128 1 ∷ []);
      seen =
          "0 0" ∷ "1 0" ∷ "2 0" ∷ "3 0" ∷ "4 0" ∷ "5 0" ∷ "6 0" ∷ "7 0" ∷ "8 0" ∷ "9 0" ∷ "10 0" ∷ "11 0" ∷ "12 0 66" ∷ "13 0" ∷ "14 0 77"
          ∷ "15 0" ∷ "16 0" ∷ "17 0" ∷ "18 0" ∷ "19 0" ∷ "20 0" ∷ "21 0" ∷ "22 0 33" ∷ [];
    })
    -- pending in DPActivated: the path goes all the way down and up again, and loses it on the way from DPInit alone; entering 7, 1 and 4 sets bits in 134,
    -- entering 6, 3, 2 and 5 does not
    ∷ holds_ready (record {
      image = two_lanes;
      events =
          walked 4 ++ (write 143 (0x03 ∷ []) ∷ work 0 ∷ work 0 ∷ work 0 ∷ select_page 0x11 ∷ read 134 1 ∷ hardware 0 ∷ read 128 7 ∷ hardware 1
          ∷ read 128 7 ∷ hardware 0 ∷ read 128 7 ∷ hardware 0 ∷ read 128 7 ∷ hardware 0 ∷ read 128 7 ∷ read 235 1 ∷ hardware 0 ∷ read 128 7
          ∷ read 235 1 ∷ hardware 0 ∷ read 128 7 ∷ hardware 0 ∷ read 128 7 ∷ []);
      seen =
          "0 0" ∷ "1 0" ∷ "2 0" ∷ "3 0" ∷ "4 0" ∷ "5 0" ∷ "6 0" ∷ "7 0" ∷ "8 0" ∷ "9 0" ∷ "10 0" ∷ "11 0" ∷ "12 0" ∷ "13 0" ∷ "14 0"
          ∷ "15 0 03" ∷ "16 0" ∷ "17 0 66 11 11 11 00 00 00" ∷ "18 0" ∷ "19 0 77 11 11 11 00 00 03" ∷ "20 0" ∷ "21 0 33 11 11 11 00 00 00" ∷ "22 0"
          ∷ "23 0 11 11 11 11 00 00 03" ∷ "24 0" ∷ "25 0 22 11 11 11 00 00 00" ∷ "26 0 03" ∷ "27 0" ∷ "28 0 77 11 11 11 00 00 03" ∷ "29 0 00"
          ∷ "30 0" ∷ "31 0 55 11 11 11 00 00 00" ∷ "32 0" ∷ "33 0 44 11 11 11 00 00 03" ∷ [];
    })
    -- a hardware event: 7 on lane 1, whose path has lane 0 in progress, and on lane 2, in progress and unused; 6 on lane 4; done on lane 1 once lane 0 is closed
    ∷ holds_ready (record {
      image = two_lanes;
      events =
          walked 0 ++ (write 145 (0x00 ∷ 0x10 ∷ 0x14 ∷ 0x14 ∷ []) ∷ write 143 (0x0d ∷ []) ∷ hardware 1 ∷ hardware 2 ∷ hardware 4 ∷ work 0
          ∷ hardware 1 ∷ select_page 0x11 ∷ read 128 4 ∷ read 202 4 ∷ []);
      seen =
          "0 0" ∷ "1 0" ∷ "2 0" ∷ "3 0" ∷ "4 0" ∷ "5 0" ∷ "6 0" ∷ "7 0" ∷ "8 7" ∷ "9 7" ∷ "10 6" ∷ "11 0" ∷ "12 0" ∷ "13 0"
          ∷ "14 0 22 11 11 11" ∷ "15 0 17 cc 00 00" ∷ [];
    })
    ∷ []
