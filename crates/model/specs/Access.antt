-- Host accesses, byte by byte in address order (01 "Host accesses").
use Rattle.std.specs.Prelude.{suc, ◌+◌, ◌-◌, Bool, [], ◌∷◌, eqb, leb, ltb, get_or, set, None, Some, Option}
use Rattle.bits.specs.Choice.{pick, only_if, both, either}
use Rattle.bits.specs.Loop.{each, tab}
use Rattle.bits.specs.Number.{field, with_field}
use Rattle.model.specs.Numbers.{Byte, Bytes, Count, Index, Address}
use Rattle.model.specs.Map.{Image, page9_f, run_address, module_controls, software_reset_bit, page_select, trigger_at, is_trigger, writable, clearing}
use Rattle.model.specs.State.{State, with_image}
use Rattle.model.specs.Triggers.{triggered_state}
use Rattle.model.specs.Pages.{selected_start, index_of, selected_image}
use Rattle.model.specs.Commands.{command_image}
use Rattle.model.specs.Start.{reset_state}
use Rattle.model.specs.declared.lane.Apply.{Apply}

-- lower 26.3, SoftwareReset, is never stored and reads as 0 (02 Req 04)
unfoldable pub without_reset : Index → Byte → Byte
without_reset i v = pick (eqb i module_controls) (with_field v software_reset_bit.shift 1 0) v

-- ---- writing

-- a byte written to an index of the image: the page select and the triggers act, writable bytes are stored, the others ignore it
unfoldable pub stored_by : Option Apply → Index → Byte → State → State
stored_by None i v s = pick (writable i) (with_image s (set s.image i (without_reset i v))) s
stored_by (Some a) i v s = triggered_state a.trigger a.set s v

unfoldable pub stored_state : Index → Byte → State → State
stored_state i v s = pick (eqb i page_select) (with_image s (selected_image v s.image)) (stored_by (trigger_at i) i v s)

-- a byte written to an address
unfoldable pub byte_written_state : Address → Byte → State → State
byte_written_state address v s = stored_state (index_of s.image address) v s

-- bytes written from an address on
unfoldable pub bytes_written_state : Address → Bytes → State → State
bytes_written_state address [] s = s
bytes_written_state address (v ∷ vs) s = bytes_written_state (suc address) vs (byte_written_state address v s)

-- ---- the end of a write

-- a write of n bytes from an address writes an address
unfoldable pub writes : Address → Count → Address → Bool
writes address n a = both (leb address a) (ltb a (address + n))

-- it runs a command: it writes 129 while page 9Fh is selected (02 Req 01)
unfoldable pub runs_command : Address → Count → Image → Bool
runs_command address n x = both (writes address n run_address) (eqb (selected_start x) page9_f)

-- it resets the module: it writes lower 26 with SoftwareReset at 1 (02 Req 04)
unfoldable pub resets : Address → Bytes → Count → Bool
resets address bytes n =
    both (writes address n module_controls) (eqb (field (get_or bytes (module_controls - address) 0) software_reset_bit.shift 1) 1)

-- what a write of n bytes does after its last byte: the command that it runs, or the reset that it asks for
unfoldable pub ended_state : Address → Bytes → Count → State → State
ended_state address bytes n s =
    pick (resets address bytes n) (reset_state s) (with_image s (only_if (runs_command address n s.image) command_image s.image))

-- ---- reading

-- what a read shows of a byte: the triggers read as 0
unfoldable pub shown_byte : Image → Index → Byte
shown_byte x i = pick (is_trigger (trigger_at i)) 0 (without_reset i (get_or x i 0))

-- the values of the n bytes from index i on, taken before any is cleared
unfoldable pub taken_bytes : Image → Index → Count → Bytes
taken_bytes x i n = tab n (λ k. shown_byte x (i + k))

-- those among them that a read clears, cleared
unfoldable pub cleared_image : Image → Index → Count → Image
cleared_image x i n = each (λ k. clearing (i + k)) (λ k y. set y (i + k) 0) n x

-- ---- the access itself

abbrev pub write_limit : Count
write_limit = 8

abbrev pub read_limit : Count
read_limit = 128

-- the end of the half of memory that an address lies in
unfoldable pub half_end : Address → Address
half_end address = pick (ltb address 128) 128 256

-- no bytes, more than the limit, or past the end of its own half
unfoldable pub is_bad_access : Count → Address → Count → Bool
is_bad_access limit address count =
    either (eqb count 0) (either (ltb limit count) (ltb (half_end address) (address + count)))
