-- Flags that last (02 Req 02): both sides of each line. The numbers are the papers' own, so that a wrong one of the model is seen.
use Prim.Native.String.{String}
use Rattle.std.specs.Prelude.{Bool, List, [], ◌∷◌}
use Rattle.model.specs.Map.{Image}
use Rattle.model.specs.declared.event.Event.{Event}
use Rattle.cases.specs.Case.{holds, four_lanes, limited, write, read, work, condition, lasting, sample, select_page}

-- the image of 01's example, its received power to lie between 1000h and 2000h
unfoldable pub bounded : Image
bounded = limited 0x1000 0x1000 0x2000 0x2000 four_lanes

-- events on page 11h, and all that is printed but the line of its selection
abbrev pub on_status : List Event → List String → Bool
on_status events seen = holds (record { image = bounded; events = select_page 0x11 ∷ events; seen = "0 0" ∷ seen })

abbrev pub conditions : List Bool
conditions =
    -- a condition that lasts comes back after each read, and pulls the interrupt; another event begins it on more lanes and ends it on others; once ended its
    -- flags stay till they are read
    on_status (lasting 135 0x0f 0x00 ∷ read 135 1 ∷ read 135 1 ∷ read 3 1 ∷ lasting 135 0x30 0x3c ∷ read 135 1 ∷ read 135 1 ∷ lasting 135 0x00 0xff ∷ read 3 1 ∷ read 135 1 ∷ read 135 1 ∷ read 3 1 ∷ [])
    ("1 0" ∷ "2 0 0f" ∷ "3 0 0f" ∷ "4 0 02" ∷ "5 0" ∷ "6 0 3f" ∷ "7 0 33" ∷ "8 0" ∷ "9 0 02" ∷ "10 0 33" ∷ "11 0 00" ∷ "12 0 03" ∷ [])
    -- a bit in both masks is on
    ∷ on_status (lasting 137 0x81 0x81 ∷ read 137 1 ∷ read 137 1 ∷ []) ("1 0" ∷ "2 0 81" ∷ "3 0 81" ∷ [])
    -- .. and stays on where it was
    ∷ on_status (lasting 137 0x81 0x00 ∷ lasting 137 0x01 0x81 ∷ read 137 1 ∷ read 137 1 ∷ []) ("1 0" ∷ "2 0" ∷ "3 0 81" ∷ "4 0 01" ∷ [])
    -- neither mask: nothing begins and nothing ends
    ∷ on_status (lasting 138 0x18 0x00 ∷ lasting 138 0x00 0x00 ∷ read 138 1 ∷ read 138 1 ∷ []) ("1 0" ∷ "2 0" ∷ "3 0 18" ∷ "4 0 18" ∷ [])
    -- the flag bytes that a condition may name, and their neighbours
    ∷ on_status (lasting 134 0x01 0x00 ∷ lasting 135 0x00 0x00 ∷ lasting 138 0x00 0x00 ∷ lasting 139 0x01 0x00 ∷ lasting 146 0x01 0x00 ∷ lasting 147 0x00 0x00 ∷ lasting 148 0x01 0x00 ∷ lasting 149 0x01 0x00 ∷ lasting 152 0x01 0x00 ∷ lasting 153 0x01 0x00 ∷ read 134 20 ∷ [])
    ("1 8" ∷ "2 0" ∷ "3 0" ∷ "4 8" ∷ "5 8" ∷ "6 0" ∷ "7 0" ∷ "8 8" ∷ "9 8" ∷ "10 8" ∷ "11 0 00 00 00 00 00 00 00 00 00 00 00 00 00 00 01 00 00 00 00 00" ∷ [])
    -- a condition that comes once is gone after its read, and leaves what is on
    ∷ on_status (condition 135 0x01 ∷ read 135 1 ∷ read 135 1 ∷ lasting 148 0x81 0x00 ∷ condition 148 0x02 ∷ read 148 1 ∷ read 148 1 ∷ []) ("1 0" ∷ "2 0 01" ∷ "3 0 00" ∷ "4 0" ∷ "5 0" ∷ "6 0 83" ∷ "7 0 81" ∷ [])
    -- a read of one flag byte leaves the others; one of several shows again those that are on
    ∷ on_status (lasting 135 0x01 0x00 ∷ lasting 136 0x02 0x00 ∷ lasting 136 0x00 0x02 ∷ read 136 1 ∷ read 134 4 ∷ read 134 4 ∷ []) ("1 0" ∷ "2 0" ∷ "3 0" ∷ "4 0 02" ∷ "5 0 00 01 00 00" ∷ "6 0 00 01 00 00" ∷ [])
    -- ended before its flag is read: the read shows it for the last time
    ∷ on_status (lasting 136 0x04 0x00 ∷ lasting 136 0x00 0x04 ∷ read 136 1 ∷ read 136 1 ∷ []) ("1 0" ∷ "2 0" ∷ "3 0 04" ∷ "4 0 00" ∷ [])
    -- under its mask it pulls no interrupt, also after a read
    ∷ on_status (lasting 147 0x01 0x00 ∷ select_page 0x10 ∷ write 226 (0x01 ∷ []) ∷ read 3 1 ∷ select_page 0x11 ∷ read 147 1 ∷ read 3 1 ∷ select_page 0x10 ∷ write 226 (0x00 ∷ []) ∷ read 3 1 ∷ [])
    ("1 0" ∷ "2 0" ∷ "3 0" ∷ "4 0 03" ∷ "5 0" ∷ "6 0 01" ∷ "7 0 03" ∷ "8 0" ∷ "9 0" ∷ "10 0 02" ∷ [])
    ∷ []

abbrev pub samples : List Bool
samples =
    -- below its limits it comes back, at them it ends, and its flags stay till they are read
    on_status (sample 3 0x0fff ∷ read 149 4 ∷ read 149 4 ∷ sample 3 0x1000 ∷ read 149 4 ∷ read 149 4 ∷ []) ("1 0" ∷ "2 0 00 08 00 08" ∷ "3 0 00 08 00 08" ∷ "4 0" ∷ "5 0 00 08 00 08" ∷ "6 0 00 00 00 00" ∷ [])
    -- each lane by its own last sample
    ∷ on_status (sample 3 0x2001 ∷ sample 5 0x0fff ∷ sample 3 0x1800 ∷ read 149 4 ∷ read 149 4 ∷ []) ("1 0" ∷ "2 0" ∷ "3 0" ∷ "4 0 08 20 08 20" ∷ "5 0 00 20 00 20" ∷ [])
    -- from above its limits to below them
    ∷ on_status (sample 6 0x2001 ∷ read 149 4 ∷ sample 6 0x0000 ∷ read 149 4 ∷ read 149 4 ∷ []) ("1 0" ∷ "2 0 40 00 40 00" ∷ "3 0" ∷ "4 0 40 40 40 40" ∷ "5 0 00 40 00 40" ∷ [])
    -- a lane that was never sampled is below no limit, though 0 is stored for it
    ∷ on_status (read 149 4 ∷ read 149 4 ∷ read 186 2 ∷ []) ("1 0 00 00 00 00" ∷ "2 0 00 00 00 00" ∷ "3 0 00 00" ∷ [])
    -- a sample leaves what conditions have on, and they leave what it has
    ∷ on_status (lasting 148 0x08 0x00 ∷ sample 3 0x0fff ∷ sample 3 0x1800 ∷ lasting 148 0x10 0x00 ∷ read 148 5 ∷ read 148 5 ∷ []) ("1 0" ∷ "2 0" ∷ "3 0" ∷ "4 0" ∷ "5 0 18 00 08 00 08" ∷ "6 0 18 00 00 00 00" ∷ [])
    ∷ []

-- an Apply of lanes 0 to 3, from its trigger to its closing step, leaves what is on
abbrev pub applies : List Bool
applies =
    holds (record {
      image = bounded;
      events =
          lasting 136 0x05 0x00 ∷ sample 2 0x0fff ∷ select_page 0x10 ∷ write 145 (0x10 ∷ 0x10 ∷ 0x10 ∷ 0x10 ∷ []) ∷ write 143 (0x0f ∷ [])
          ∷ select_page 0x11 ∷ read 136 1 ∷ work 0 ∷ read 136 1 ∷ work 1 ∷ work 2 ∷ work 3 ∷ work 0 ∷ read 202 2 ∷ read 136 1 ∷ read 150 1 ∷ read 150 1 ∷ [];
      seen =
          "0 0" ∷ "1 0" ∷ "2 0" ∷ "3 0" ∷ "4 0" ∷ "5 0" ∷ "6 0 05" ∷ "7 0" ∷ "8 0 05" ∷ "9 0" ∷ "10 0" ∷ "11 0" ∷ "12 0" ∷ "13 0 11 11" ∷ "14 0 05"
          ∷ "15 0 04" ∷ "16 0 04" ∷ [];
    })
    ∷ []
