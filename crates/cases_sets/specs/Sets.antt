-- Worked cases of the second staged set, both sides of each line (02 Req 11).
use Rattle.std.specs.Prelude.{ℕ, Bool, List, [], ◌∷◌, ◌++◌}
use Rattle.bits.specs.Loop.{tab}
use Rattle.model.specs.declared.event.Event.{Event}
use Rattle.cases.specs.Case.{holds, changes_nothing, holding, four_lanes, on01, write, read, work, select_page}

-- four DPConfigs of one value, from an address on
unfoldable pub staged : ℕ → ℕ → Event
staged address config = write address (config ∷ config ∷ config ∷ config ∷ [])

-- the five work steps of a group of four lanes that passes
unfoldable pub worked_out : ℕ → List Event
worked_out lane = tab 5 (λ i. work lane)

abbrev pub two_sets : List Bool
two_sets =
    -- an Apply from set 1: its triggers read as 0, what it staged becomes active, 26 addresses above
    holds (record {
      image = four_lanes;
      events =
          (select_page 0x10 ∷ staged 180 0x10 ∷ write 178 (0x0f ∷ []) ∷ []) ++ worked_out 0 ++ (read 178 4 ∷ select_page 0x11 ∷ read 202 4 ∷ read 206 5
          ∷ read 235 1 ∷ []);
      seen =
          "0 0" ∷ "1 0" ∷ "2 0" ∷ "3 0" ∷ "4 0" ∷ "5 0" ∷ "6 0" ∷ "7 0" ∷ "8 0 00 00 10 10" ∷ "9 0" ∷ "10 0 11 11 00 00" ∷ "11 0 10 10 10 10 00"
          ∷ "12 0 0f" ∷ [];
    })
    -- a trigger of set 0 on lanes in progress from set 1 is ignored with its group, and what set 1 stages after its trigger comes too late
    ∷ holds (record {
      image = four_lanes;
      events =
          (select_page 0x10 ∷ staged 180 0x10 ∷ write 178 (0x0f ∷ []) ∷ staged 145 0x11 ∷ write 143 (0x0f ∷ []) ∷ staged 180 0x20 ∷ []) ++ worked_out 0
          ++ (select_page 0x11 ∷ read 202 2 ∷ read 206 4 ∷ []);
      seen = "0 0" ∷ "1 0" ∷ "2 0" ∷ "3 0" ∷ "4 0" ∷ "5 0" ∷ "6 0" ∷ "7 0" ∷ "8 0" ∷ "9 0" ∷ "10 0" ∷ "11 0" ∷ "12 0 11 11" ∷ "13 0 10 10 10 10" ∷ [];
    })
    -- lanes in progress from set 0 stop a group of set 1 that has one of them: lanes 2 and 3 stay idle
    ∷ holds (record {
      image = four_lanes;
      events =
          select_page 0x10 ∷ staged 145 0x10 ∷ staged 180 0x10 ∷ write 143 (0x03 ∷ []) ∷ write 178 (0x0f ∷ []) ∷ select_page 0x11 ∷ read 202 2 ∷ work 3
          ∷ work 1 ∷ read 202 2 ∷ [];
      seen = "0 0" ∷ "1 0" ∷ "2 0" ∷ "3 0" ∷ "4 0" ∷ "5 0" ∷ "6 0 cc 00" ∷ "7 6" ∷ "8 0" ∷ "9 0 77 00" ∷ [];
    })
    -- .. and lanes in progress from set 1 stop one of set 0
    ∷ holds (record {
      image = four_lanes;
      events =
          select_page 0x10 ∷ staged 180 0x10 ∷ staged 145 0x10 ∷ write 178 (0x03 ∷ []) ∷ write 143 (0x0f ∷ []) ∷ select_page 0x11 ∷ read 202 2 ∷ work 3
          ∷ work 1 ∷ read 202 2 ∷ [];
      seen = "0 0" ∷ "1 0" ∷ "2 0" ∷ "3 0" ∷ "4 0" ∷ "5 0" ∷ "6 0 cc 00" ∷ "7 6" ∷ "8 0" ∷ "9 0 77 00" ∷ [];
    })
    -- SteppedConfigOnly: ApplyImmediate of set 1 does nothing, ApplyDPInit of set 1 does
    ∷ holds (record {
      image = holding 2 (0x40 ∷ []) four_lanes;
      events = select_page 0x10 ∷ staged 180 0x10 ∷ write 179 (0x0f ∷ []) ∷ work 0 ∷ write 178 (0x0f ∷ []) ∷ work 0 ∷ [];
      seen = "0 0" ∷ "1 0" ∷ "2 0" ∷ "3 6" ∷ "4 0" ∷ "5 0" ∷ [];
    })
    -- .. and without it ApplyImmediate of set 1 applies, and leaves DPInitPending
    ∷ holds (record {
      image = four_lanes;
      events =
          (select_page 0x10 ∷ staged 180 0x10 ∷ write 179 (0x0f ∷ []) ∷ []) ++ worked_out 0 ++ (select_page 0x11 ∷ read 202 2 ∷ read 206 4 ∷ read 235 1
          ∷ []);
      seen = "0 0" ∷ "1 0" ∷ "2 0" ∷ "3 0" ∷ "4 0" ∷ "5 0" ∷ "6 0" ∷ "7 0" ∷ "8 0" ∷ "9 0 11 11" ∷ "10 0 10 10 10 10" ∷ "11 0 00" ∷ [];
    })
    -- a trigger of set 1 acts at its own byte: what later bytes of the access stage comes too late
    ∷ holds (record {
      image = four_lanes;
      events =
          (select_page 0x10 ∷ staged 180 0x10 ∷ write 178 (0x0f ∷ 0x00 ∷ 0x20 ∷ 0x20 ∷ 0x20 ∷ 0x20 ∷ 0x00 ∷ 0x00 ∷ []) ∷ read 178 8 ∷ [])
          ++ worked_out 0 ++ (select_page 0x11 ∷ read 206 4 ∷ []);
      seen = "0 0" ∷ "1 0" ∷ "2 0" ∷ "3 0 00 00 20 20 20 20 00 00" ∷ "4 0" ∷ "5 0" ∷ "6 0" ∷ "7 0" ∷ "8 0" ∷ "9 0" ∷ "10 0 10 10 10 10" ∷ [];
    })
    -- 178 and 179 in one access are two triggers, of which the first marks the lanes
    ∷ holds (record {
      image = four_lanes;
      events = (select_page 0x10 ∷ staged 180 0x10 ∷ write 178 (0x0f ∷ 0x0f ∷ []) ∷ []) ++ worked_out 0 ++ (select_page 0x11 ∷ read 235 1 ∷ work 0 ∷ []);
      seen = "0 0" ∷ "1 0" ∷ "2 0" ∷ "3 0" ∷ "4 0" ∷ "5 0" ∷ "6 0" ∷ "7 0" ∷ "8 0" ∷ "9 0 0f" ∷ "10 6" ∷ [];
    })
    -- one access over the end of set 0, both triggers of set 1 and its first byte: 174 to 177 keep nothing
    ∷ holds (record {
      image = four_lanes;
      events =
          select_page 0x10 ∷ staged 180 0x10 ∷ write 173 (0x0f ∷ 0x0f ∷ 0x0f ∷ 0x0f ∷ 0x0f ∷ 0x0f ∷ 0x0f ∷ 0x0f ∷ []) ∷ read 173 8 ∷ select_page 0x11
          ∷ read 202 4 ∷ [];
      seen = "0 0" ∷ "1 0" ∷ "2 0" ∷ "3 0 0f 00 00 00 00 00 00 0f" ∷ "4 0" ∷ "5 0 cc cc 00 00" ∷ [];
    })
    -- 189, 190 and 209 to 212 ignore a write; 188, 191, 208 and 213 keep it
    ∷ holds (record {
      image = four_lanes;
      events =
          select_page 0x10 ∷ write 188 (0xff ∷ 0xff ∷ 0xff ∷ 0xff ∷ []) ∷ read 188 4 ∷ write 206 (0x01 ∷ 0x02 ∷ 0x03 ∷ 0x04 ∷ 0x05 ∷ 0x06 ∷ 0x07 ∷ 0x08
          ∷ []) ∷ read 206 8 ∷ [];
      seen = "0 0" ∷ "1 0" ∷ "2 0 ff 00 00 ff" ∷ "3 0" ∷ "4 0 01 02 03 00 00 00 00 08" ∷ [];
    })
    -- ExplicitControl 1: each setting of set 1 is copied to its own place
    ∷ holds (record {
      image = holding (on01 153) (0xff ∷ 0xff ∷ []) four_lanes;
      events =
          (select_page 0x10 ∷ staged 180 0x11 ∷ write 188 (0x05 ∷ []) ∷ write 191 (0x21 ∷ 0x43 ∷ []) ∷ write 195 (0x0a ∷ 0x03 ∷ []) ∷ write 197 (0x65
          ∷ 0x87 ∷ []) ∷ write 201 (0xa9 ∷ 0xcb ∷ []) ∷ write 205 (0x10 ∷ 0x32 ∷ []) ∷ write 178 (0x0f ∷ []) ∷ []) ++ worked_out 0 ++ (select_page 0x11
          ∷ read 202 34 ∷ []);
      seen =
          "0 0" ∷ "1 0" ∷ "2 0" ∷ "3 0" ∷ "4 0" ∷ "5 0" ∷ "6 0" ∷ "7 0" ∷ "8 0" ∷ "9 0" ∷ "10 0" ∷ "11 0" ∷ "12 0" ∷ "13 0" ∷ "14 0"
          ∷ "15 0 11 11 00 00 11 11 11 11 00 00 00 00 05 00 00 21 43 00 00 0a 03 65 87 00 00 a9 cb 00 00 10 32 00 00 0f" ∷ [];
    })
    -- an untouched set 1 releases: part of a path that set 0 made gets 7, all of it goes
    ∷ holds (record {
      image = four_lanes;
      events =
          (select_page 0x10 ∷ staged 145 0x10 ∷ write 143 (0x0f ∷ []) ∷ []) ++ worked_out 0 ++ (write 178 (0x07 ∷ []) ∷ work 0 ∷ select_page 0x11
          ∷ read 202 4 ∷ select_page 0x10 ∷ write 178 (0x0f ∷ []) ∷ []) ++ worked_out 3 ++ (select_page 0x11 ∷ read 202 34 ∷ []);
      seen =
          "0 0" ∷ "1 0" ∷ "2 0" ∷ "3 0" ∷ "4 0" ∷ "5 0" ∷ "6 0" ∷ "7 0" ∷ "8 0" ∷ "9 0" ∷ "10 0" ∷ "11 0 77 17 00 00" ∷ "12 0" ∷ "13 0" ∷ "14 0"
          ∷ "15 0" ∷ "16 0" ∷ "17 0" ∷ "18 0" ∷ "19 0"
          ∷ "20 0 11 11 00 00 00 00 00 00 00 00 00 00 00 00 00 00 00 00 00 00 00 00 00 00 00 00 00 00 00 00 00 00 00 00" ∷ [];
    })
    -- groups of both sets worked in turns, both stagings overwritten half-way
    ∷ holds (record {
      image = four_lanes;
      events =
          select_page 0x10 ∷ staged 145 0x10 ∷ staged 184 0x18 ∷ write 143 (0x0f ∷ []) ∷ write 178 (0xf0 ∷ []) ∷ work 0 ∷ work 4 ∷ work 0 ∷ work 4
          ∷ staged 145 0x00 ∷ staged 184 0x00 ∷ work 0 ∷ work 4 ∷ work 0 ∷ work 4 ∷ work 0 ∷ work 4 ∷ select_page 0x11 ∷ read 202 12 ∷ read 235 1 ∷ [];
      seen =
          "0 0" ∷ "1 0" ∷ "2 0" ∷ "3 0" ∷ "4 0" ∷ "5 0" ∷ "6 0" ∷ "7 0" ∷ "8 0" ∷ "9 0" ∷ "10 0" ∷ "11 0" ∷ "12 0" ∷ "13 0" ∷ "14 0" ∷ "15 0" ∷ "16 0"
          ∷ "17 0" ∷ "18 0 11 11 11 11 10 10 10 10 18 18 18 18" ∷ "19 0 ff" ∷ [];
    })
    -- a trigger of set 1 on lanes in progress from set 0 changes nothing at all, though set 1 is staged otherwise
    ∷ changes_nothing four_lanes (select_page 0x10 ∷ staged 145 0x10 ∷ staged 180 0x11 ∷ write 143 (0x0f ∷ []) ∷ []) (write 178 (0x0f ∷ []))
    -- a start after an Apply from set 1 leaves set 1 at 0
    ∷ holds (record {
      image = holding 564 (0x10 ∷ 0x10 ∷ []) four_lanes;
      events = select_page 0x10 ∷ read 180 2 ∷ staged 180 0x10 ∷ read 180 4 ∷ write 26 (0x08 ∷ []) ∷ select_page 0x10 ∷ read 180 4 ∷ [];
      seen = "0 0" ∷ "1 0 00 00" ∷ "2 0" ∷ "3 0 10 10 10 10" ∷ "4 0" ∷ "5 0" ∷ "6 0 00 00 00 00" ∷ [];
    })
    ∷ []
