-- Worked cases of groups, triggers and verdicts, both sides of each line (01 "Triggers and verdicts").
use Rattle.std.specs.Prelude.{Bool, List, [], ◌∷◌, ◌++◌}
use Rattle.bits.specs.Loop.{tab}
use Rattle.model.specs.Map.{Image}
use Rattle.bits.specs.Sets.{lane_count}
use Rattle.cases.specs.Case.{holds, holds_ready, changes_nothing, blank, holding, four_lanes, on01, write, read, work, hardware, select_page, applied}

-- Applications 1 and 2 of one host lane each, which may begin on any lane
unfoldable pub one_lane : Image
one_lane = holding 88 (0x11 ∷ 0xff ∷ 0x00 ∷ 0x00 ∷ 0x11 ∷ 0xff ∷ []) blank

-- Application 1 of two host lanes, 2 of one and 3 of four
unfoldable pub mixed : Image
mixed = holding 88 (0x22 ∷ 0x55 ∷ 0x00 ∷ 0x00 ∷ 0x11 ∷ 0xff ∷ 0x00 ∷ 0x00 ∷ 0x44 ∷ 0x11 ∷ []) blank

abbrev pub judged : List Bool
judged =
    -- AppSels differ in one group: 4, with a descriptor for each of its lanes but one, and before 3, with none for its first lane
    holds (record {
      image = four_lanes;
      events =
          select_page 0x10 ∷ write 145 (0x10 ∷ 0x10 ∷ 0x10 ∷ 0x20 ∷ 0x28 ∷ 0x18 ∷ 0x18 ∷ 0x18 ∷ []) ∷ write 143 (0xff ∷ []) ∷ work 0 ∷ work 4
          ∷ select_page 0x11 ∷ read 202 4 ∷ [];
      seen = "0 0" ∷ "1 0" ∷ "2 0" ∷ "3 0" ∷ "4 0" ∷ "5 0" ∷ "6 0 44 44 44 44" ∷ [];
    })
    -- AppSel 2, its descriptor that of the starred case but for FEh in place of FFh: 1
    ∷ holds (record {
      image = holding 90 (0xfe ∷ 0x00 ∷ 0x44 ∷ 0x11 ∷ []) four_lanes;
      events = applied 145 (0x20 ∷ 0x20 ∷ 0x20 ∷ 0x20 ∷ []) 0x0f 0 ++ (work 0 ∷ work 0 ∷ work 0 ∷ work 0 ∷ read 202 8 ∷ []);
      seen =
          "0 0" ∷ "1 0" ∷ "2 0" ∷ "3 0" ∷ "4 0" ∷ "5 0 cc cc 00 00" ∷ "6 0" ∷ "7 0" ∷ "8 0" ∷ "9 0" ∷ "10 0 11 11 00 00 20 20 20 20" ∷ [];
    })
    -- a lane outside f .. f + n - 1: 4; f + n above 8, where bit f is set: 4; lane 5, with AppSel 0, is in neither group, though its id is 0 too
    ∷ holds (record {
      image = holding 88 (0x44 ∷ 0x51 ∷ []) blank;
      events =
          select_page 0x10 ∷ write 145 (0x10 ∷ 0x10 ∷ 0x10 ∷ 0x10 ∷ 0x10 ∷ 0x00 ∷ 0x1c ∷ 0x1c ∷ []) ∷ write 143 (0xff ∷ []) ∷ work 0 ∷ work 6
          ∷ select_page 0x11 ∷ read 202 4 ∷ [];
      seen = "0 0" ∷ "1 0" ∷ "2 0" ∷ "3 0" ∷ "4 0" ∷ "5 0" ∷ "6 0 44 44 c4 44" ∷ [];
    })
    -- a lane on an active path whose lanes are not this group, fewer of them or more: 6; AppSel 0 on one lane of the path alone: 7; the path's own lanes: passed
    ∷ holds (record {
      image = mixed;
      events =
          select_page 0x10 ∷ write 145 (0x10 ∷ 0x10 ∷ 0x00 ∷ 0x00 ∷ 0x18 ∷ 0x18 ∷ []) ∷ write 143 (0x33 ∷ []) ∷ work 0 ∷ work 0 ∷ work 0 ∷ work 4
          ∷ work 4 ∷ work 4 ∷ write 145 (0x00 ∷ 0x22 ∷ []) ∷ write 149 (0x38 ∷ 0x38 ∷ 0x38 ∷ 0x38 ∷ []) ∷ write 143 (0xf3 ∷ []) ∷ work 0 ∷ work 1
          ∷ work 4 ∷ select_page 0x11 ∷ read 202 4 ∷ select_page 0x10 ∷ write 145 (0x10 ∷ 0x10 ∷ []) ∷ write 143 (0x03 ∷ []) ∷ work 0
          ∷ select_page 0x11 ∷ read 202 4 ∷ [];
      seen =
          "0 0" ∷ "1 0" ∷ "2 0" ∷ "3 0" ∷ "4 0" ∷ "5 0" ∷ "6 0" ∷ "7 0" ∷ "8 0" ∷ "9 0" ∷ "10 0" ∷ "11 0" ∷ "12 0" ∷ "13 0" ∷ "14 0" ∷ "15 0"
          ∷ "16 0 67 00 66 66" ∷ "17 0" ∷ "18 0" ∷ "19 0" ∷ "20 0" ∷ "21 0" ∷ "22 0 cc 00 66 66" ∷ [];
    })
    -- ExplicitControl 1 with limits 3, 2 and 5 and amplitude 2 alone: lane 0 at all of them passes; then, one to a lane, input EQ, pre- and post-cursor
    -- one above, amplitudes 1, 3 and 6: 5. Lane 7 has ExplicitControl 0 and all above: passed
    ∷ holds (record {
      image = holding (on01 153) (0x43 ∷ 0x52 ∷ []) one_lane;
      events =
          select_page 0x10 ∷ write 145 (0x11 ∷ 0x13 ∷ 0x15 ∷ 0x17 ∷ 0x19 ∷ 0x1b ∷ 0x1d ∷ 0x1e ∷ []) ∷ write 156 (0x43 ∷ 0x33 ∷ 0x33 ∷ 0xf3 ∷ [])
          ∷ write 162 (0x22 ∷ 0x23 ∷ 0x22 ∷ 0xf2 ∷ 0x55 ∷ 0x65 ∷ 0x55 ∷ 0xf5 ∷ []) ∷ write 170 (0x22 ∷ 0x22 ∷ 0x31 ∷ 0xf6 ∷ [])
          ∷ write 143 (0xff ∷ []) ∷ tab lane_count (λ l. work l) ++ (work 0 ∷ work 7 ∷ select_page 0x11 ∷ read 202 4 ∷ []);
      seen =
          "0 0" ∷ "1 0" ∷ "2 0" ∷ "3 0" ∷ "4 0" ∷ "5 0" ∷ "6 0" ∷ "7 0" ∷ "8 0" ∷ "9 0" ∷ "10 0" ∷ "11 0" ∷ "12 0" ∷ "13 0" ∷ "14 0" ∷ "15 0"
          ∷ "16 0" ∷ "17 0 51 55 55 15" ∷ [];
    })
    -- lanes 0-6 in the states 1, 2, 7, 5, 4, 3 and 6: passed in 1, 7 and 4, else 2
    ∷ holds_ready (record {
      image = one_lane;
      events =
          select_page 0x10 ∷ write 145 (0x10 ∷ 0x12 ∷ 0x14 ∷ 0x16 ∷ 0x18 ∷ 0x1a ∷ 0x1c ∷ []) ∷ write 143 (0x7f ∷ []) ∷ tab 7 (λ l. work l)
          ++ tab 7 (λ l. work l) ++ (hardware 1 ∷ hardware 5 ∷ []) ++ tab 2 (λ i. hardware 2) ++ tab 3 (λ i. hardware 3) ++ tab 4 (λ i. hardware 4)
          ++ tab 4 (λ i. hardware 6) ++ (write 128 (0x60 ∷ []) ∷ hardware 5 ∷ hardware 6 ∷ write 143 (0x7f ∷ []) ∷ tab 7 (λ l. work l))
          ++ (work 0 ∷ work 2 ∷ work 4 ∷ select_page 0x11 ∷ read 128 4 ∷ read 202 4 ∷ []);
      seen =
          "0 0" ∷ "1 0" ∷ "2 0" ∷ "3 0" ∷ "4 0" ∷ "5 0" ∷ "6 0" ∷ "7 0" ∷ "8 0" ∷ "9 0" ∷ "10 0" ∷ "11 0" ∷ "12 0" ∷ "13 0" ∷ "14 0" ∷ "15 0"
          ∷ "16 0" ∷ "17 0" ∷ "18 0" ∷ "19 0" ∷ "20 0" ∷ "21 0" ∷ "22 0" ∷ "23 0" ∷ "24 0" ∷ "25 0" ∷ "26 0" ∷ "27 0" ∷ "28 0" ∷ "29 0" ∷ "30 0"
          ∷ "31 0" ∷ "32 0" ∷ "33 0" ∷ "34 0" ∷ "35 0" ∷ "36 0" ∷ "37 0" ∷ "38 0" ∷ "39 0" ∷ "40 0" ∷ "41 0" ∷ "42 0" ∷ "43 0" ∷ "44 0" ∷ "45 0"
          ∷ "46 0" ∷ "47 0 21 57 34 16" ∷ "48 0 21 21 21 02" ∷ [];
    })
    -- ApplyImmediate that changes AppSel: passed in DPDeactivated, 2 in DPInitialized and DPActivated; one that keeps it there: passed; ApplyDPInit may change it
    ∷ holds_ready (record {
      image = one_lane;
      events =
          select_page 0x10 ∷ write 145 (0x10 ∷ 0x12 ∷ 0x14 ∷ 0x16 ∷ []) ∷ write 143 (0x0f ∷ []) ∷ tab 4 (λ l. work l) ++ tab 4 (λ l. work l)
          ++ tab 2 (λ i. hardware 1) ++ tab 4 (λ i. hardware 2) ++ tab 2 (λ i. hardware 3) ++ (write 145 (0x20 ∷ 0x22 ∷ 0x24 ∷ 0x16 ∷ [])
          ∷ write 144 (0x0f ∷ []) ∷ work 0 ∷ work 1 ∷ work 2 ∷ work 3 ∷ work 0 ∷ work 3 ∷ select_page 0x11 ∷ read 202 8 ∷ select_page 0x10
          ∷ write 143 (0x06 ∷ []) ∷ work 1 ∷ work 2 ∷ work 1 ∷ work 2 ∷ select_page 0x11 ∷ read 202 8 ∷ []);
      seen =
          "0 0" ∷ "1 0" ∷ "2 0" ∷ "3 0" ∷ "4 0" ∷ "5 0" ∷ "6 0" ∷ "7 0" ∷ "8 0" ∷ "9 0" ∷ "10 0" ∷ "11 0" ∷ "12 0" ∷ "13 0" ∷ "14 0" ∷ "15 0"
          ∷ "16 0" ∷ "17 0" ∷ "18 0" ∷ "19 0" ∷ "20 0" ∷ "21 0" ∷ "22 0" ∷ "23 0" ∷ "24 0" ∷ "25 0" ∷ "26 0" ∷ "27 0"
          ∷ "28 0 21 12 00 00 20 12 14 16" ∷ "29 0" ∷ "30 0" ∷ "31 0" ∷ "32 0" ∷ "33 0" ∷ "34 0" ∷ "35 0" ∷ "36 0 11 11 00 00 20 22 24 16" ∷ [];
    })
    -- the first that applies: lane 1 has 6 before 5, lanes 2 and 3 have 5 before 2, lanes 4-6 have 7 before 6, lane 7 has 4 before 7
    ∷ holds_ready (record {
      image = mixed;
      events =
          select_page 0x10 ∷ write 145 (0x10 ∷ 0x10 ∷ 0x14 ∷ 0x14 ∷ 0x18 ∷ 0x18 ∷ []) ∷ write 143 (0x3f ∷ []) ∷ work 0 ∷ work 0 ∷ work 0 ∷ work 2
          ∷ work 2 ∷ work 2 ∷ work 4 ∷ work 4 ∷ work 4 ∷ hardware 2 ∷ write 146 (0x23 ∷ 0x15 ∷ 0x15 ∷ 0x38 ∷ 0x38 ∷ 0x38 ∷ 0x16 ∷ [])
          ∷ write 143 (0xfe ∷ []) ∷ work 1 ∷ work 2 ∷ work 4 ∷ work 7 ∷ select_page 0x11 ∷ read 202 4 ∷ [];
      seen =
          "0 0" ∷ "1 0" ∷ "2 0" ∷ "3 0" ∷ "4 0" ∷ "5 0" ∷ "6 0" ∷ "7 0" ∷ "8 0" ∷ "9 0" ∷ "10 0" ∷ "11 0" ∷ "12 0" ∷ "13 0" ∷ "14 0" ∷ "15 0"
          ∷ "16 0" ∷ "17 0" ∷ "18 0" ∷ "19 0" ∷ "20 0 61 55 77 47" ∷ [];
    })
    -- a group is marked while another is in progress, and by the trigger that ignores the other
    ∷ holds (record {
      image = four_lanes;
      events =
          select_page 0x10 ∷ write 145 (0x10 ∷ 0x10 ∷ 0x10 ∷ 0x10 ∷ 0x18 ∷ 0x18 ∷ 0x18 ∷ 0x18 ∷ []) ∷ write 143 (0x0f ∷ []) ∷ write 143 (0xff ∷ [])
          ∷ select_page 0x11 ∷ read 202 4 ∷ work 5 ∷ read 206 8 ∷ [];
      seen = "0 0" ∷ "1 0" ∷ "2 0" ∷ "3 0" ∷ "4 0" ∷ "5 0 cc cc cc cc" ∷ "6 0" ∷ "7 0 00 00 00 00 18 00 00 00" ∷ [];
    })
    -- releases by one trigger: each path's lanes together, lanes on no path each alone; what closes has nothing pending, the rest waits
    ∷ holds (record {
      image = mixed;
      events =
          select_page 0x10 ∷ write 145 (0x10 ∷ 0x10 ∷ 0x14 ∷ 0x14 ∷ []) ∷ write 143 (0x0f ∷ []) ∷ work 0 ∷ work 0 ∷ work 0 ∷ work 2 ∷ work 2 ∷ work 2
          ∷ write 145 (0x00 ∷ 0x00 ∷ 0x00 ∷ 0x00 ∷ []) ∷ write 143 (0x6f ∷ []) ∷ work 0 ∷ work 0 ∷ work 0 ∷ work 5 ∷ work 5 ∷ select_page 0x11
          ∷ read 202 34 ∷ [];
      seen =
          "0 0" ∷ "1 0" ∷ "2 0" ∷ "3 0" ∷ "4 0" ∷ "5 0" ∷ "6 0" ∷ "7 0" ∷ "8 0" ∷ "9 0" ∷ "10 0" ∷ "11 0" ∷ "12 0" ∷ "13 0" ∷ "14 0" ∷ "15 0"
          ∷ "16 0" ∷ "17 0 11 cc 10 0c 00 00 14 14 00 00 00 00 0c 00 00 00 00 00 00 0c 0c 00 00 00 00 00 00 00 00 00 00 00 00 0c" ∷ [];
    })
    -- eight lanes: one is copied a step, ascending, and the ninth step closes
    ∷ holds (record {
      image = holding 88 (0x88 ∷ 0x01 ∷ []) blank;
      events =
          select_page 0x10 ∷ write 145 (tab lane_count (λ l. 0x10)) ∷ write 143 (0xff ∷ []) ∷ select_page 0x11 ∷ work 7 ∷ read 206 8 ∷ work 7 ∷ read 206 8
          ∷ tab 6 (λ i. work 7) ++ (read 202 4 ∷ work 7 ∷ read 202 12 ∷ work 7 ∷ []);
      seen =
          "0 0" ∷ "1 0" ∷ "2 0" ∷ "3 0" ∷ "4 0" ∷ "5 0 10 00 00 00 00 00 00 00" ∷ "6 0" ∷ "7 0 10 10 00 00 00 00 00 00" ∷ "8 0" ∷ "9 0" ∷ "10 0"
          ∷ "11 0" ∷ "12 0" ∷ "13 0" ∷ "14 0 cc cc cc cc" ∷ "15 0" ∷ "16 0 11 11 11 11 10 10 10 10 10 10 10 10" ∷ "17 6" ∷ [];
    })
    -- ApplyImmediate where lower 2.6 is 1: nothing
    ∷ changes_nothing (holding 2 (0x40 ∷ []) four_lanes) (select_page 0x10 ∷ write 145 (0x10 ∷ 0x10 ∷ 0x10 ∷ 0x10 ∷ []) ∷ []) (write 144 (0x0f ∷ []))
    -- .. but ApplyDPInit acts
    ∷ holds (record {
      image = holding 2 (0x40 ∷ []) four_lanes;
      events = applied 145 (0x10 ∷ 0x10 ∷ 0x10 ∷ 0x10 ∷ []) 0x0f 0;
      seen = "0 0" ∷ "1 0" ∷ "2 0" ∷ "3 0" ∷ "4 0" ∷ "5 0 cc cc 00 00" ∷ [];
    })
    -- .. and where it is 0, and bits 5-0 are 1, ApplyImmediate is carried out, with nothing pending after it
    ∷ holds (record {
      image = holding 2 (0x3f ∷ []) four_lanes;
      events =
          select_page 0x10 ∷ write 145 (0x10 ∷ 0x10 ∷ 0x10 ∷ 0x10 ∷ []) ∷ write 144 (0x0f ∷ []) ∷ work 0 ∷ work 0 ∷ work 0 ∷ work 0 ∷ work 0
          ∷ select_page 0x11 ∷ read 202 34 ∷ [];
      seen =
          "0 0" ∷ "1 0" ∷ "2 0" ∷ "3 0" ∷ "4 0" ∷ "5 0" ∷ "6 0" ∷ "7 0" ∷ "8 0"
          ∷ "9 0 11 11 00 00 10 10 10 10 00 00 00 00 0f 00 00 00 00 00 00 0f 0f 00 00 00 00 00 00 00 00 00 00 00 00 00" ∷ [];
    })
    ∷ []
