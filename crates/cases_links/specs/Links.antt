-- Runs of two links beside each other (02 Req 13): lanes 0 to 3 are the one, lanes 4 to 7 the other; and runs in which links are mixed.
use Rattle.std.specs.Prelude.{ℕ, Bool, List, [], ◌∷◌, eqb, get_or}
use Rattle.bits.specs.Place.{get}
use Rattle.bits.specs.Sets.{LaneSet}
use Rattle.model.specs.Map.{Image, page11, on, state_at, status_at}
use Rattle.model.specs.State.{State}
use Rattle.model.specs.Work.{early}
use Rattle.model.specs.Outcome.{list_room}
use Rattle.model.specs.Start.{started_state}
use Rattle.model.specs.Step.{ending}
use Rattle.model.specs.declared.event.Event.{Event}
use Rattle.laws_links.specs.Links.{first_events, second_events}
use Rattle.cases_links.specs.Side.{Side, shared, of_first, of_second, laid_out}
use Rattle.cases.specs.Case.{blank, holding, four_lanes, write, read, work, hardware, sample, module_event, select_page}

-- where the two runs end
unfoldable pub first_end : Image → List Side → State
first_end x ms = ending early list_room (started_state x) (first_events (laid_out ms))

unfoldable pub second_end : Image → List Side → State
second_end x ms = ending early list_room (started_state x) (second_events (laid_out ms))

-- ---- what is supposed can hold while A does very different things

abbrev pub camera : LaneSet
camera = 0x0f

-- Applications 1 and 2 of four lanes each
unfoldable pub two_applications : Image
two_applications = holding 92 (0x44 ∷ 0x11 ∷ []) four_lanes

-- the first run applies Application 1 on lanes 0 to 3 and releases it; the second is in the middle of applying Application 2 there. Lanes 4 to 7 are set up
-- and activated in both
abbrev pub side_by_side : List Side
side_by_side =
    shared module_event ∷ shared module_event ∷ shared (select_page 0x10)
    ∷ of_first (write 145 (0x10 ∷ 0x10 ∷ 0x10 ∷ 0x10 ∷ [])) ∷ of_second (write 145 (0x20 ∷ 0x20 ∷ 0x20 ∷ 0x20 ∷ []))
    ∷ shared (write 149 (0x18 ∷ 0x18 ∷ 0x18 ∷ 0x18 ∷ [])) ∷ of_first (write 143 (0x0f ∷ [])) ∷ shared (write 143 (0xf0 ∷ []))
    ∷ shared (work 4) ∷ of_first (work 0) ∷ shared (work 4) ∷ of_first (work 0) ∷ of_second (write 143 (0x0f ∷ [])) ∷ shared (work 7) ∷ shared (work 5)
    ∷ of_first (work 3) ∷ of_first (work 3) ∷ of_first (work 3) ∷ of_second (work 1) ∷ of_second (work 1) ∷ shared (work 6)
    ∷ of_first (sample 1 100) ∷ of_second (sample 2 7) ∷ shared (sample 5 12)
    ∷ of_first (write 145 (0x00 ∷ 0x00 ∷ 0x00 ∷ 0x00 ∷ [])) ∷ of_first (write 143 (0x0f ∷ []))
    ∷ shared (hardware 4) ∷ shared (hardware 4) ∷ of_first (work 0) ∷ shared (hardware 5) ∷ shared (hardware 6) ∷ of_first (work 0)
    ∷ shared (select_page 0x11) ∷ shared (read 128 8) ∷ []

-- ---- an ignored group counts: lane 0 is in progress, lane 1 has its DataPathID, and the runs differ in the trigger's bit 0 alone

unfoldable pub one_lane : Image
one_lane = holding 88 (0x11 ∷ 0xff ∷ []) blank

abbrev pub with_lane_zero : ℕ → List Event
with_lane_zero selected =
    select_page 0x10 ∷ write 145 (0x10 ∷ []) ∷ write 143 (0x01 ∷ []) ∷ write 146 (0x10 ∷ []) ∷ write 143 (selected ∷ []) ∷ []

-- ---- a path with a lane of A and another: the runs differ in lane 0's DPDeinit bit alone

unfoldable pub two_lanes : Image
two_lanes = holding 88 (0x22 ∷ 0x55 ∷ []) blank

abbrev pub with_path_of_two : ℕ → List Event
with_path_of_two deinit =
    module_event ∷ module_event ∷ select_page 0x10 ∷ write 145 (0x10 ∷ 0x10 ∷ []) ∷ write 143 (0x03 ∷ []) ∷ work 0 ∷ work 0 ∷ work 0 ∷ write 128 (deinit ∷ []) ∷ hardware 1 ∷ []

unfoldable pub end_of : Image → List Event → State
end_of x es = ending early list_room (started_state x) es

abbrev pub linked : List Bool
linked =
    -- lane 0 ends with no Application in the first run, and with Application 2 copied in the second
    eqb (get_or (first_end two_applications side_by_side).image (on page11 206) 0) 0x00
    ∷ eqb (get_or (second_end two_applications side_by_side).image (on page11 206) 0) 0x20
    -- lanes 4 to 7 are DPActivated in both
    ∷ eqb (get (first_end two_applications side_by_side).image (state_at 4)) 4
    ∷ eqb (get (second_end two_applications side_by_side).image (state_at 7)) 4
    -- lane 1 is left alone with lane 0 selected beside it, and marked without
    ∷ eqb (get (end_of one_lane (with_lane_zero 0x03)).image (status_at 1)) 0x0
    ∷ eqb (get (end_of one_lane (with_lane_zero 0x02)).image (status_at 1)) 0xc
    -- lane 1's state goes by lane 0's bit
    ∷ eqb (get (end_of two_lanes (with_path_of_two 0x01)).image (state_at 1)) 1
    ∷ eqb (get (end_of two_lanes (with_path_of_two 0x00)).image (state_at 1)) 2
    ∷ []
