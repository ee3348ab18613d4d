-- Command messages (02 Req 01): both sides of each line of the table of what a message gets, and each command's reply. The numbers are the papers' own, so that a
-- wrong one of the model is seen.
use Rattle.std.specs.Prelude.{ℕ, Bool, not, List, [], ◌∷◌, ◌++◌, length}
use Prim.Native.String.{String}
use Rattle.model.specs.Map.{Image}
use Rattle.model.specs.Flags.{interrupts}
use Rattle.model.specs.declared.event.Event.{Event}
use Rattle.cases.specs.Case.{holds, blank, holding, four_lanes, write, read, select_page}

-- the image of 01's example, its firmware of version 7.254
unfoldable pub versioned : Image
versioned = holding 39 (0x07 ∷ 0xfe ∷ []) four_lanes

-- events on page 9Fh, and all that is printed but the line of its selection
abbrev pub on_commands : List Event → List String → Bool
on_commands events seen = holds (record { image = versioned; events = select_page 0x9f ∷ events; seen = "0 0" ∷ seen })

-- a whole message without a body in one access: number, EPLLength, length, code
abbrev pub message : ℕ → ℕ → ℕ → ℕ → ℕ → ℕ → Event
message high low extended_high extended_low n code = write 128 (high ∷ low ∷ extended_high ∷ extended_low ∷ n ∷ code ∷ 0 ∷ 0 ∷ [])

-- a body of at most 8 bytes, if there is one
unfoldable pub body_written : List ℕ → List Event
body_written [] = []
body_written (v ∷ vs) = write 136 (v ∷ vs) ∷ []

-- a message as Linux sends it: bytes 130 to 135 and the body, the number by itself, then the flag, the status, the reply's length and code, and the reply
unfoldable pub driven : ℕ → ℕ → ℕ → List ℕ → ℕ → List Event
driven high low code body replied =
    write 130 (0 ∷ 0 ∷ length body ∷ code ∷ 0 ∷ 0 ∷ []) ∷ body_written body
    ++ (write 128 (high ∷ low ∷ []) ∷ read 8 1 ∷ read 37 1 ∷ read 134 2 ∷ read 136 replied ∷ [])

abbrev pub commands : List Bool
commands =
    -- 0040h with a code that is one too low: 45h, no reply, the body as it was; the flag is set, pulls the interrupt, and is cleared by a read
    on_commands (write 136 (0x09 ∷ 0x09 ∷ []) ∷ message 0x00 0x40 0x00 0x00 0x00 0xbe ∷ read 37 1 ∷ read 134 4 ∷ read 3 1 ∷ read 8 1 ∷ read 3 1 ∷ []) ("1 0" ∷ "2 0" ∷ "3 0 45" ∷ "4 0 00 00 09 09" ∷ "5 0 02" ∷ "6 0 40" ∷ "7 0 03" ∷ [])
    -- .. with its code: 01h, and the map of what is supported; masked by 31.6 alone
    ∷ on_commands (message 0x00 0x40 0x00 0x00 0x00 0xbf ∷ read 37 1 ∷ read 3 1 ∷ write 31 (0x40 ∷ []) ∷ read 3 1 ∷ write 31 (0xbf ∷ []) ∷ read 3 1 ∷ read 8 1 ∷ read 3 1 ∷ read 128 44 ∷ []) ("1 0" ∷ "2 0 01" ∷ "3 0 02" ∷ "4 0" ∷ "5 0 03" ∷ "6 0" ∷ "7 0 02" ∷ "8 0 40" ∷ "9 0 03" ∷ "10 0 00 40 00 00 00 bf 24 fb 00 00 01 00 00 00 00 00 00 00 03 00 00 00 00 00 00 00 00 00 00 00 00 00 00 00 00 00 00 00 00 00 00 00 00 00" ∷ [])
    -- 0000h with a delay: it has no effect, and the reply ends after two bytes
    ∷ on_commands (write 136 (0x01 ∷ 0xf4 ∷ 0x55 ∷ []) ∷ write 132 (0x02 ∷ 0x08 ∷ []) ∷ write 128 (0x00 ∷ 0x00 ∷ []) ∷ read 37 1 ∷ read 132 7 ∷ []) ("1 0" ∷ "2 0" ∷ "3 0" ∷ "4 0 01" ∷ "5 0 02 08 02 fd 02 00 55" ∷ [])
    -- 0041h: eighteen zeros have a code of FFh, and what lies past them stays
    ∷ on_commands (write 136 (0x09 ∷ 0x09 ∷ 0x09 ∷ 0x09 ∷ 0x09 ∷ 0x09 ∷ 0x09 ∷ 0x09 ∷ []) ∷ write 144 (0x09 ∷ 0x09 ∷ 0x09 ∷ 0x09 ∷ 0x09 ∷ 0x09 ∷ 0x09 ∷ 0x09 ∷ []) ∷ write 152 (0x09 ∷ 0x09 ∷ 0x09 ∷ []) ∷ message 0x00 0x41 0x00 0x00 0x00 0xbe ∷ read 134 21 ∷ []) ("1 0" ∷ "2 0" ∷ "3 0" ∷ "4 0" ∷ "5 0 12 ff 00 00 00 00 00 00 00 00 00 00 00 00 00 00 00 00 00 00 09" ∷ [])
    -- 0100h: a factory image of the version in lower 39-40
    ∷ on_commands (message 0x01 0x00 0x00 0x00 0x00 0xfe ∷ read 134 113 ∷ []) ("1 0" ∷ "2 0 6e f6 00 04 00 00 00 00 00 00 00 00 00 00 00 00 00 00 00 00 00 00 00 00 00 00 00 00 00 00 00 00 00 00 00 00 00 00 00 00 00 00 00 00 00 00 00 00 00 00 00 00 00 00 00 00 00 00 00 00 00 00 00 00 00 00 00 00 00 00 00 00 00 00 00 00 07 fe 00 00 00 00 00 00 00 00 00 00 00 00 00 00 00 00 00 00 00 00 00 00 00 00 00 00 00 00 00 00 00 00 00 00 00" ∷ [])
    -- 0101h is no command: 41h where its code is right, 45h where not; 0042h and 0043h are none
    ∷ on_commands (write 136 (0x09 ∷ []) ∷ message 0x01 0x01 0x00 0x00 0x00 0xfd ∷ read 37 1 ∷ read 134 3 ∷ message 0x01 0x01 0x00 0x00 0x00 0xfc ∷ read 37 1 ∷ message 0x00 0x42 0x00 0x00 0x00 0xbd ∷ read 37 1 ∷ message 0x00 0x43 0x00 0x00 0x00 0xbc ∷ read 37 1 ∷ []) ("1 0" ∷ "2 0" ∷ "3 0 41" ∷ "4 0 00 00 09" ∷ "5 0" ∷ "6 0 45" ∷ "7 0" ∷ "8 0 41" ∷ "9 0" ∷ "10 0 41" ∷ [])
    -- a fresh page wants FFh as its code; a number written again runs again
    ∷ on_commands (write 129 (0x00 ∷ []) ∷ read 37 1 ∷ write 133 (0xff ∷ []) ∷ read 37 1 ∷ write 129 (0x00 ∷ []) ∷ read 37 1 ∷ []) ("1 0" ∷ "2 0 45" ∷ "3 0" ∷ "4 0 45" ∷ "5 0" ∷ "6 0 01" ∷ [])
    -- any length up to 120 and any EPLLength, if the code fits
    ∷ on_commands (message 0x00 0x40 0x00 0x00 0x78 0x47 ∷ read 37 1 ∷ message 0x00 0x40 0x00 0x00 0x79 0x46 ∷ read 37 1 ∷ message 0x00 0x40 0x12 0x34 0x00 0x79 ∷ read 37 1 ∷ []) ("1 0" ∷ "2 0 01" ∷ "3 0" ∷ "4 0 45" ∷ "5 0" ∷ "6 0 01" ∷ [])
    -- the number last, in an access of its own
    ∷ on_commands (write 132 (0x00 ∷ 0xbf ∷ []) ∷ write 128 (0x00 ∷ 0x40 ∷ []) ∷ read 37 1 ∷ []) ("1 0" ∷ "2 0" ∷ "3 0 01" ∷ [])
    -- 128 without 129, and what comes after it: nothing runs
    ∷ on_commands (write 128 (0x00 ∷ []) ∷ write 130 (0x00 ∷ 0x00 ∷ 0x00 ∷ 0xff ∷ 0x00 ∷ 0x00 ∷ []) ∷ read 37 1 ∷ read 8 1 ∷ []) ("1 0" ∷ "2 0" ∷ "3 0 00" ∷ "4 0 00" ∷ [])
    -- the flag is cleared for good, and the next command sets it again
    ∷ on_commands (write 129 (0x00 ∷ []) ∷ read 8 1 ∷ read 8 1 ∷ write 129 (0x00 ∷ []) ∷ read 8 1 ∷ []) ("1 0" ∷ "2 0 40" ∷ "3 0 00" ∷ "4 0" ∷ "5 0 40" ∷ [])
    -- 133 is not in the sum, nor are 134 and 135
    ∷ on_commands (write 134 (0x11 ∷ 0x22 ∷ []) ∷ write 132 (0x00 ∷ 0xbf ∷ []) ∷ write 128 (0x00 ∷ 0x40 ∷ []) ∷ read 37 1 ∷ []) ("1 0" ∷ "2 0" ∷ "3 0" ∷ "4 0 01" ∷ [])
    -- what stood in 134 and 135 is gone after a message that failed
    ∷ on_commands (write 134 (0x11 ∷ 0x22 ∷ []) ∷ write 132 (0x00 ∷ 0xbe ∷ []) ∷ write 128 (0x00 ∷ 0x40 ∷ []) ∷ read 37 1 ∷ read 134 2 ∷ [])
    ("1 0" ∷ "2 0" ∷ "3 0" ∷ "4 0 45" ∷ "5 0 00 00" ∷ [])
    -- in bank 1 the upper half is page 00h, where nothing runs
    ∷ on_commands (write 133 (0xff ∷ []) ∷ write 126 (0x01 ∷ []) ∷ write 129 (0x00 ∷ []) ∷ read 37 1 ∷ write 126 (0x00 ∷ []) ∷ write 129 (0x00 ∷ []) ∷ read 37 1 ∷ []) ("1 0" ∷ "2 0" ∷ "3 0" ∷ "4 0 00" ∷ "5 0" ∷ "6 0" ∷ "7 0 01" ∷ [])
    -- page 9Fh in bank 1 is not selected
    ∷ holds (record { image = versioned; events = write 126 (0x01 ∷ 0x9f ∷ []) ∷ read 126 2 ∷ []; seen = "0 0" ∷ "1 0 00 00" ∷ [] })
    -- a refused access runs nothing
    ∷ on_commands (write 129 (0 ∷ 0 ∷ 0 ∷ 0 ∷ 0 ∷ 0 ∷ 0 ∷ 0 ∷ 0 ∷ []) ∷ read 37 1 ∷ []) ("1 4" ∷ "2 0 00" ∷ [])
    -- no bit of lower 8 and 9 but 8.6 and 8.0 pulls the interrupt, whatever a lent image has there
    ∷ not (interrupts (holding 8 (0xbe ∷ 0xff ∷ []) blank))
    ∷ interrupts (holding 8 (0x40 ∷ []) blank)
    ∷ interrupts (holding 8 (0x01 ∷ []) blank)
    ∷ []

-- ---- each command as Linux sends it

abbrev pub driven_commands : List Bool
driven_commands =
    on_commands (driven 0x00 0x00 0x08 (0x01 ∷ 0xf4 ∷ []) 2) ("1 0" ∷ "2 0" ∷ "3 0" ∷ "4 0 40" ∷ "5 0 01" ∷ "6 0 02 fd" ∷ "7 0 02 00" ∷ [])
    ∷ on_commands (driven 0x00 0x40 0xbf [] 36) ("1 0" ∷ "2 0" ∷ "3 0 40" ∷ "4 0 01" ∷ "5 0 24 fb" ∷ "6 0 00 00 01 00 00 00 00 00 00 00 03 00 00 00 00 00 00 00 00 00 00 00 00 00 00 00 00 00 00 00 00 00 00 00 00 00" ∷ [])
    ∷ on_commands (driven 0x00 0x41 0xbe [] 18) ("1 0" ∷ "2 0" ∷ "3 0 40" ∷ "4 0 01" ∷ "5 0 12 ff" ∷ "6 0 00 00 00 00 00 00 00 00 00 00 00 00 00 00 00 00 00 00" ∷ [])
    ∷ on_commands (driven 0x01 0x00 0xfe [] 110) ("1 0" ∷ "2 0" ∷ "3 0 40" ∷ "4 0 01" ∷ "5 0 6e f6" ∷ "6 0 00 04 00 00 00 00 00 00 00 00 00 00 00 00 00 00 00 00 00 00 00 00 00 00 00 00 00 00 00 00 00 00 00 00 00 00 00 00 00 00 00 00 00 00 00 00 00 00 00 00 00 00 00 00 00 00 00 00 00 00 00 00 00 00 00 00 00 00 00 00 00 00 00 00 07 fe 00 00 00 00 00 00 00 00 00 00 00 00 00 00 00 00 00 00 00 00 00 00 00 00 00 00 00 00 00 00 00 00 00 00" ∷ [])
    ∷ []
