-- The write that lent bytes ask for: as many as there are, and all of them; and the event of eight bytes at most that is put in its place.
use Rattle.std.specs.Prelude.{◌+◌, ltb, length, get_or}
use Rattle.bits.specs.Choice.{pick}
use Rattle.bits.specs.Loop.{tab}
use Rattle.model.specs.Numbers.{Bytes, Count, Address}
use Rattle.model.specs.Access.{write_limit}
use Rattle.model.specs.Step.{event}
use Rattle.model.specs.declared.event.Call.TheVariants.{Write}
use Rattle.model.specs.declared.event.Event.{Event}

-- a write of all bytes that are lent
abbrev pub write_of : Address → Bytes → Event
write_of address bytes = event (Write address (length bytes)) bytes

-- a count that is too large stays one too large
unfoldable pub held_count : Count → Count
held_count n = pick (ltb write_limit n) (write_limit + 1) n

-- as many bytes as a write can carry, 0 where none is lent
unfoldable pub held_bytes : Bytes → Bytes
held_bytes bytes = tab write_limit (λ k. get_or bytes k 0)

abbrev pub held_write : Address → Bytes → Event
held_write address bytes = event (Write address (held_count (length bytes))) (held_bytes bytes)
