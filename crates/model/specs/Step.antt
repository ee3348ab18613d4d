-- One event, and a run of events. A step asks for the refusals 4, 8, 5, 7 and 6; it is begun at a start, or at a state that was found sound.
use Rattle.std.specs.Prelude.{List, [], ◌∷◌, take}
use Rattle.bits.specs.Choice.{pick}
use Rattle.bits.specs.Sets.{LaneSet}
use Rattle.model.specs.Numbers.{Bytes, Count, Index, Address}
use Rattle.model.specs.Answers.{is_done}
use Rattle.model.specs.Records.{with_line}
use Rattle.model.specs.State.{State, state_with, with_image}
use Rattle.model.specs.Effect.{Effect, on_state}
use Rattle.model.specs.Work.{Mode, work_effect}
use Rattle.model.specs.Power.{holds_down, module_image}
use Rattle.model.specs.Hardware.{hardware_image}
use Rattle.model.specs.Flags.{condition_image, lasting_state, sampled_state, shown_again_image, settled_image}
use Rattle.model.specs.Pages.{index_of}
use Rattle.model.specs.Access.{bytes_written_state, ended_state, taken_bytes, cleared_image}
use Rattle.model.specs.Refusals.{first_of, event_refusals}
use Rattle.model.specs.declared.answer.Answer.{Answer}
use Rattle.model.specs.declared.event.Call.{Call}
use Rattle.model.specs.declared.event.Call.TheVariants.{Write, Read, Work, Hardware, Condition, Sample, Lasting, Module, Line}
use Rattle.model.specs.declared.event.Event.{Event}

-- an event: a call, and the bytes that a write carries
abbrev pub event : Call → Bytes → Event
event call bytes = record { call = call; bytes = bytes }

-- how many bytes a call reads, and from which address; none, and 0, where it is no read
abbrev pub read_count : Call → Count
read_count (Write address count) = 0
read_count (Read address count) = count
read_count (Work l) = 0
read_count (Hardware l) = 0
read_count (Condition flag mask) = 0
read_count (Sample l p) = 0
read_count (Lasting flag on off) = 0
read_count Module = 0
read_count (Line on) = 0

abbrev pub read_address : Call → Address
read_address (Write address count) = 0
read_address (Read address count) = address
read_address (Work l) = 0
read_address (Hardware l) = 0
read_address (Condition flag mask) = 0
read_address (Sample l p) = 0
read_address (Lasting flag on off) = 0
read_address Module = 0
read_address (Line on) = 0

-- n bytes read from index i on: taken, then cleared, and then what is on shows again
unfoldable pub read_effect : State → Index → Count → Effect
read_effect s i n =
    record {
      state = with_image s (shown_again_image s.working i n (cleared_image s.image i n));
      bytes = taken_bytes s.image i n;
      mask = 0;
    }

-- what an event does that is not refused
unfoldable pub event_effect : Mode → State → Bytes → Call → Effect
event_effect mode s bytes (Write address count) = on_state (ended_state address (take count bytes) count (bytes_written_state address (take count bytes) s))
event_effect mode s bytes (Read address count) = read_effect s (index_of s.image address) count
event_effect mode s bytes (Work l) = work_effect mode s l
event_effect mode s bytes (Hardware l) = on_state (with_image s (hardware_image (holds_down s.working.line s.image) s.image l))
event_effect mode s bytes (Condition flag mask) = on_state (with_image s (condition_image flag mask s.image))
event_effect mode s bytes (Sample l p) = on_state (sampled_state l p s)
event_effect mode s bytes (Lasting flag on off) = on_state (lasting_state flag on off s)
event_effect mode s bytes Module = on_state (with_image s (module_image s.working.line s.image))
event_effect mode s bytes (Line on) = on_state (state_with s.image (with_line s.working on))

-- what a step gives
pub record Stepped : Type 0 where
  pub answer : Answer
  pub state : State
  pub bytes : Bytes
  pub mask : LaneSet

-- done: lower 3.0 is settled last
unfoldable pub done_step : Answer → Effect → Stepped
done_step a c = record { answer = a; state = with_image c.state (settled_image c.state.image); bytes = c.bytes; mask = c.mask }

-- refused: nothing changes
unfoldable pub refused_step : Answer → State → Stepped
refused_step a s = record { answer = a; state = s; bytes = []; mask = 0 }

unfoldable pub answered_step : Answer → State → Effect → Stepped
answered_step a s c = pick (is_done a) (done_step a c) (refused_step a s)

-- room is the length of the buffer that a read is lent
unfoldable pub step : Mode → Count → State → Event → Stepped
step mode room s e = answered_step (first_of (event_refusals room s e.call)) s (event_effect mode s e.bytes e.call)

-- the steps of a list of events
unfoldable pub run : Mode → Count → State → List Event → List Stepped
run mode room s [] = []
run mode room s (e ∷ es) = let o = step mode room s e in o ∷ run mode room o.state es

-- the state that they end in
unfoldable pub ending : Mode → Count → State → List Event → State
ending mode room s [] = s
ending mode room s (e ∷ es) = ending mode room (step mode room s e).state es
