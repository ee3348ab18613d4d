-- Power states (02 Req 04): the module event from state to state, the low-power line, lower 26, paths held down, and resets.
use Rattle.std.specs.Prelude.{ℕ, Bool, true, false, List, [], ◌∷◌, ◌++◌, take, drop}
use Prim.Native.String.{String}
use Rattle.bits.specs.Loop.{tab}
use Rattle.model.specs.declared.event.Event.{Event}
use Rattle.cases.specs.Case.{holds, holds_ready, blank, four_lanes, write, read, work, hardware, lasting, sample, module_event, line, select_page, example}

-- ---- the module event

-- 01's example with n module events before its hardware event
unfoldable pub example_after : ℕ → List Event
example_after n = take 14 example.events ++ tab n (λ i. module_event) ++ drop 14 example.events

abbrev pub moves : List Bool
moves =
    -- ModuleLowPwr, ModulePwrUp, ModuleReady, where 8.0 is set and pulls the interrupt until it is read; ModuleReady is kept
    holds (record {
      image = blank;
      events =
          read 3 1 ∷ read 26 1 ∷ read 8 1 ∷ module_event ∷ read 3 1 ∷ read 8 1 ∷ module_event ∷ read 3 1 ∷ read 8 1 ∷ read 3 1 ∷ module_event ∷ read 3 1 ∷ read 8 1 ∷ [];
      seen =
          "0 0 03" ∷ "1 0 40" ∷ "2 0 00" ∷ "3 0" ∷ "4 0 05" ∷ "5 0 00" ∷ "6 0" ∷ "7 0 06" ∷ "8 0 01" ∷ "9 0 07" ∷ "10 0" ∷ "11 0 07" ∷ "12 0 00" ∷ [];
    })
    -- the line keeps the module down where the host allows it to ask, and brings it down from ModulePwrUp; in ModuleLowPwr 8.0 is set once, on entering it
    ∷ holds (record {
      image = blank;
      events =
          line true ∷ module_event ∷ read 3 1 ∷ write 26 (0x00 ∷ []) ∷ module_event ∷ read 3 1 ∷ write 26 (0x40 ∷ []) ∷ module_event ∷ read 3 1
          ∷ module_event ∷ read 3 1 ∷ read 8 1 ∷ read 3 1 ∷ module_event ∷ read 3 1 ∷ read 8 1 ∷ [];
      seen =
          "0 0" ∷ "1 0" ∷ "2 0 03" ∷ "3 0" ∷ "4 0" ∷ "5 0 05" ∷ "6 0" ∷ "7 0" ∷ "8 0 09" ∷ "9 0" ∷ "10 0 02" ∷ "11 0 01" ∷ "12 0 03" ∷ "13 0"
          ∷ "14 0 03" ∷ "15 0 00" ∷ [];
    })
    -- .. until it is off again
    ∷ holds (record {
      image = blank;
      events = line true ∷ module_event ∷ line false ∷ read 3 1 ∷ module_event ∷ read 3 1 ∷ [];
      seen = "0 0" ∷ "1 0" ∷ "2 0" ∷ "3 0 03" ∷ "4 0" ∷ "5 0 05" ∷ [];
    })
    -- the host's own request does so too; where the request has gone by then, ModuleLowPwr is entered with no flag
    ∷ holds (record {
      image = blank;
      events = module_event ∷ write 26 (0x50 ∷ []) ∷ module_event ∷ read 3 1 ∷ write 26 (0x40 ∷ []) ∷ module_event ∷ read 3 1 ∷ read 8 1 ∷ module_event ∷ read 3 1 ∷ [];
      seen = "0 0" ∷ "1 0" ∷ "2 0" ∷ "3 0 09" ∷ "4 0" ∷ "5 0" ∷ "6 0 03" ∷ "7 0 00" ∷ "8 0" ∷ "9 0 05" ∷ [];
    })
    -- 31.0 masks 8.0, and no other bit of 31 does
    ∷ holds (record {
      image = blank;
      events = write 31 (0x01 ∷ []) ∷ module_event ∷ module_event ∷ read 3 1 ∷ write 31 (0xfe ∷ []) ∷ read 3 1 ∷ [];
      seen = "0 0" ∷ "1 0" ∷ "2 0" ∷ "3 0 07" ∷ "4 0" ∷ "5 0 06" ∷ [];
    })
    -- 01's example: its path comes up after two module events, and stays down after one
    ∷ holds (record {
      image = four_lanes;
      events = example_after 2;
      seen = take 14 example.seen ++ ("14 0" ∷ "15 0" ∷ "16 0" ∷ "17 0 22 22" ∷ []);
    })
    ∷ holds (record {
      image = four_lanes;
      events = example_after 1;
      seen = take 14 example.seen ++ ("14 0" ∷ "15 0" ∷ "16 0 11 11" ∷ []);
    })
    ∷ []

-- ---- paths held down

-- in an image of `four_lanes`: lanes 0-3 are applied, and n hardware events move their path
unfoldable pub risen : ℕ → List Event
risen n =
    select_page 0x10 ∷ write 145 (0x10 ∷ 0x10 ∷ 0x10 ∷ 0x10 ∷ []) ∷ write 143 (0x0f ∷ []) ∷ tab 5 (λ i. work 0) ++ tab n (λ i. hardware 0)

abbrev pub risen_seen : List String
risen_seen = "0 0" ∷ "1 0" ∷ "2 0" ∷ "3 0" ∷ "4 0" ∷ "5 0" ∷ "6 0" ∷ "7 0" ∷ "8 0" ∷ "9 0" ∷ "10 0" ∷ "11 0" ∷ []

-- .. three hardware events and a module event more, and then one each; the module goes down
abbrev pub wound : List Event
wound =
    module_event ∷ read 3 1 ∷ tab 3 (λ i. hardware 0) ++ (select_page 0x11 ∷ read 128 2 ∷ module_event ∷ read 3 1 ∷ hardware 0 ∷ read 128 2
    ∷ module_event ∷ read 3 1 ∷ module_event ∷ read 3 1 ∷ read 8 1 ∷ [])

abbrev pub wound_seen : List String
wound_seen =
    "13 0" ∷ "14 0 06" ∷ "15 0" ∷ "16 0" ∷ "17 0" ∷ "18 0" ∷ "19 0 33 33" ∷ "20 0" ∷ "21 0 06" ∷ "22 0" ∷ "23 0 11 11" ∷ "24 0" ∷ "25 0 08"
    ∷ "26 0" ∷ "27 0 02" ∷ "28 0 01" ∷ []

abbrev pub held : List Bool
held =
    -- below ModuleReady an Apply passes, and its path stays in DPDeactivated with nothing flagged
    holds (record {
      image = four_lanes;
      events = risen 1 ++ (select_page 0x11 ∷ read 202 2 ∷ read 128 2 ∷ read 134 1 ∷ []);
      seen =
          "0 0" ∷ "1 0" ∷ "2 0" ∷ "3 0" ∷ "4 0" ∷ "5 0" ∷ "6 0" ∷ "7 0" ∷ "8 0" ∷ "9 0" ∷ "10 0 11 11" ∷ "11 0 11 11" ∷ "12 0 00" ∷ [];
    })
    -- low power asked for by the host: the path winds down by hardware events, and the module leaves ModuleReady once it is down
    ∷ holds_ready (record { image = four_lanes; events = risen 4 ++ (write 26 (0x50 ∷ []) ∷ wound); seen = risen_seen ++ ("12 0" ∷ wound_seen) })
    -- .. by the line
    ∷ holds_ready (record { image = four_lanes; events = risen 4 ++ (line true ∷ wound); seen = risen_seen ++ ("12 0" ∷ wound_seen) })
    -- .. but not by the line where the host does not allow it
    ∷ holds_ready (record {
      image = four_lanes;
      events = risen 4 ++ (write 26 (0x00 ∷ []) ∷ line true ∷ module_event ∷ tab 3 (λ i. hardware 0) ++ (select_page 0x11 ∷ read 128 2 ∷ read 3 1 ∷ []));
      seen = risen_seen ++ ("12 0" ∷ "13 0" ∷ "14 0" ∷ "15 0" ∷ "16 0" ∷ "17 0" ∷ "18 0" ∷ "19 0 44 44" ∷ "20 0 06" ∷ []);
    })
    ∷ []

-- ---- lower 26, and resets

abbrev pub resets : List Bool
resets =
    -- every bit of 26 is stored but SoftwareReset, which resets instead
    holds_ready (record {
      image = blank;
      events = write 26 (0xf7 ∷ []) ∷ read 26 1 ∷ read 3 1 ∷ write 26 (0xff ∷ []) ∷ read 26 1 ∷ read 3 1 ∷ [];
      seen = "0 0" ∷ "1 0 f7" ∷ "2 0 07" ∷ "3 0" ∷ "4 0 40" ∷ "5 0 03" ∷ [];
    })
    -- a reset comes at the end of its access, and wipes the bytes after its own with the rest
    ∷ holds_ready (record {
      image = blank;
      events = write 25 (0xff ∷ 0x08 ∷ 0x00 ∷ 0x00 ∷ 0x00 ∷ 0x00 ∷ 0xff ∷ 0xff ∷ []) ∷ read 3 1 ∷ read 26 1 ∷ read 31 2 ∷ read 8 1 ∷ [];
      seen = "0 0" ∷ "1 0 03" ∷ "2 0 40" ∷ "3 0 00 00" ∷ "4 0 00" ∷ [];
    })
    -- from ModulePwrUp and from ModulePwrDn too the module is in ModuleLowPwr at once, with no flag
    ∷ holds (record {
      image = blank;
      events =
          module_event ∷ read 3 1 ∷ write 26 (0x08 ∷ []) ∷ read 3 1 ∷ module_event ∷ write 26 (0x50 ∷ []) ∷ module_event ∷ read 3 1 ∷ write 26 (0x58 ∷ [])
          ∷ read 3 1 ∷ read 8 1 ∷ read 26 1 ∷ [];
      seen =
          "0 0" ∷ "1 0 05" ∷ "2 0" ∷ "3 0 03" ∷ "4 0" ∷ "5 0" ∷ "6 0" ∷ "7 0 09" ∷ "8 0" ∷ "9 0 03" ∷ "10 0 00" ∷ "11 0 40" ∷ [];
    })
    -- one in the middle of an Apply drops it; the page select, a sample and the module's state start anew, and the line is as it was
    ∷ holds (record {
      image = four_lanes;
      events =
          select_page 0x10 ∷ write 145 (0x10 ∷ 0x10 ∷ 0x10 ∷ 0x10 ∷ []) ∷ write 143 (0x0f ∷ []) ∷ work 0 ∷ sample 0 500 ∷ line true ∷ write 26 (0x48 ∷ [])
          ∷ work 0 ∷ read 126 2 ∷ select_page 0x11 ∷ read 202 1 ∷ read 206 1 ∷ read 186 2 ∷ module_event ∷ read 3 1 ∷ [];
      seen =
          "0 0" ∷ "1 0" ∷ "2 0" ∷ "3 0" ∷ "4 0" ∷ "5 0" ∷ "6 0" ∷ "7 6" ∷ "8 0 00 00" ∷ "9 0" ∷ "10 0 00" ∷ "11 0 00" ∷ "12 0 00 00" ∷ "13 0"
          ∷ "14 0 03" ∷ [];
    })
    -- a lasting condition does not outlast it
    ∷ holds (record {
      image = blank;
      events = lasting 135 0x01 0x00 ∷ select_page 0x11 ∷ read 135 1 ∷ write 26 (0x08 ∷ []) ∷ select_page 0x11 ∷ read 135 1 ∷ [];
      seen = "0 0" ∷ "1 0" ∷ "2 0 01" ∷ "3 0" ∷ "4 0" ∷ "5 0 00" ∷ [];
    })
    -- nor do a command and its status
    ∷ holds (record {
      image = blank;
      events =
          select_page 0x9f ∷ write 128 (0x00 ∷ 0x40 ∷ 0x00 ∷ 0x00 ∷ 0x00 ∷ 0xbf ∷ 0x00 ∷ 0x00 ∷ []) ∷ read 37 1 ∷ write 26 (0x48 ∷ []) ∷ read 37 1
          ∷ read 8 1 ∷ select_page 0x9f ∷ read 128 2 ∷ [];
      seen = "0 0" ∷ "1 0" ∷ "2 0 01" ∷ "3 0" ∷ "4 0 00" ∷ "5 0 00" ∷ "6 0" ∷ "7 0 00 00" ∷ [];
    })
    ∷ []
