-- The starred cases of 01, in its order.
use Rattle.std.specs.Prelude.{Bool, List, [], ◌∷◌}
use Rattle.model.specs.declared.event.Event.{Event}
use Rattle.cases.specs.Case.{holds, changes_nothing, holding, four_lanes, limited, write, read, work, sample, select_page, applied}

-- in an image of `four_lanes`: all lanes are staged, lanes 0-3 are triggered and lane 0 is copied
unfoldable pub halfway : List Event
halfway =
    select_page 0x10 ∷ write 145 (0x10 ∷ 0x10 ∷ 0x10 ∷ 0x10 ∷ 0x18 ∷ 0x18 ∷ 0x18 ∷ 0x18 ∷ []) ∷ write 143 (0x0f ∷ []) ∷ work 0 ∷ []

abbrev pub starred : List Bool
starred =
    -- lanes 0-2 of id 0: 7
    holds (record {
      image = four_lanes;
      events = applied 145 (0x10 ∷ 0x10 ∷ 0x10 ∷ []) 0x07 0;
      seen = "0 0" ∷ "1 0" ∷ "2 0" ∷ "3 0" ∷ "4 0" ∷ "5 0 77 07 00 00" ∷ [];
    })
    -- lanes 2-5, id 2: 4
    ∷ holds (record {
      image = four_lanes;
      events = applied 147 (0x14 ∷ 0x14 ∷ 0x14 ∷ 0x14 ∷ []) 0x3c 2;
      seen = "0 0" ∷ "1 0" ∷ "2 0" ∷ "3 0" ∷ "4 0" ∷ "5 0 00 44 44 00" ∷ [];
    })
    -- AppSel 2, descriptor 2 at FFh, but for that as good as descriptor 1: 3
    ∷ holds (record {
      image = holding 90 (0xff ∷ 0x00 ∷ 0x44 ∷ 0x11 ∷ []) four_lanes;
      events = applied 145 (0x20 ∷ 0x20 ∷ 0x20 ∷ 0x20 ∷ []) 0x0f 0;
      seen = "0 0" ∷ "1 0" ∷ "2 0" ∷ "3 0" ∷ "4 0" ∷ "5 0 33 33 00 00" ∷ [];
    })
    -- AppSel 9: 3, for its descriptor is missing (amended by 02 Req 05)
    ∷ holds (record {
      image = four_lanes;
      events = applied 145 (0x90 ∷ 0x90 ∷ 0x90 ∷ 0x90 ∷ []) 0x0f 0;
      seen = "0 0" ∷ "1 0" ∷ "2 0" ∷ "3 0" ∷ "4 0" ∷ "5 0 33 33 00 00" ∷ [];
    })
    -- trigger mask 0: nothing
    ∷ holds (record {
      image = four_lanes;
      events = applied 145 (0x10 ∷ 0x10 ∷ 0x10 ∷ 0x10 ∷ []) 0x00 0;
      seen = "0 0" ∷ "1 0" ∷ "2 0" ∷ "3 6" ∷ "4 0" ∷ "5 0 00 00 00 00" ∷ [];
    })
    -- .. of the whole state, with lanes 0-3 under way and lanes 4-7 staged, by either trigger
    ∷ changes_nothing four_lanes halfway (write 143 (0x00 ∷ []))
    ∷ changes_nothing four_lanes halfway (write 144 (0x00 ∷ []))
    -- low alarm 1000, and the other limits with it (Req 08): sample 1000 leaves its bit in 150 clear
    ∷ holds (record {
      image = limited 1000 1000 1000 1000 four_lanes;
      events = sample 3 1000 ∷ select_page 0x11 ∷ read 150 1 ∷ [];
      seen = "0 0" ∷ "1 0" ∷ "2 0 00" ∷ [];
    })
    -- .. and 999 sets it
    ∷ holds (record {
      image = limited 1000 1000 1000 1000 four_lanes;
      events = sample 3 999 ∷ select_page 0x11 ∷ read 150 1 ∷ [];
      seen = "0 0" ∷ "1 0" ∷ "2 0 08" ∷ [];
    })
    -- write at 248 count 8: 0
    ∷ holds (record {
      image = four_lanes;
      events = write 248 (1 ∷ 2 ∷ 3 ∷ 4 ∷ 5 ∷ 6 ∷ 7 ∷ 8 ∷ []) ∷ [];
      seen = "0 0" ∷ [];
    })
    -- .. at 250: 4
    ∷ holds (record {
      image = four_lanes;
      events = write 250 (1 ∷ 2 ∷ 3 ∷ 4 ∷ 5 ∷ 6 ∷ 7 ∷ 8 ∷ []) ∷ [];
      seen = "0 4" ∷ [];
    })
    -- read at 120 count 8: 0, and beside it count 9: 4
    ∷ holds (record {
      image = four_lanes;
      events = read 120 8 ∷ read 120 9 ∷ [];
      seen = "0 0 00 00 00 00 00 00 00 00" ∷ "1 4" ∷ [];
    })
    -- write 143-150 in one access: the trigger holds what was staged before it
    ∷ holds (record {
      image = four_lanes;
      events =
          select_page 0x10 ∷ write 145 (0x10 ∷ 0x10 ∷ 0x10 ∷ 0x10 ∷ [])
          ∷ write 143 (0x0f ∷ 0x00 ∷ 0x20 ∷ 0x20 ∷ 0x20 ∷ 0x20 ∷ 0x00 ∷ 0x00 ∷ []) ∷ read 143 8
          ∷ work 0 ∷ work 1 ∷ work 2 ∷ work 3 ∷ work 0 ∷ select_page 0x11 ∷ read 202 4 ∷ read 206 4 ∷ [];
      seen =
          "0 0" ∷ "1 0" ∷ "2 0" ∷ "3 0 00 00 20 20 20 20 00 00" ∷ "4 0" ∷ "5 0" ∷ "6 0" ∷ "7 0" ∷ "8 0" ∷ "9 0"
          ∷ "10 0 11 11 00 00" ∷ "11 0 10 10 10 10" ∷ [];
    })
    ∷ []
