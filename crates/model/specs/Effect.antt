-- What an event does that is carried out: the state it leaves, the bytes it read, the lanes to be commissioned.
use Rattle.std.specs.Prelude.{[]}
use Rattle.bits.specs.Sets.{LaneSet}
use Rattle.model.specs.Numbers.{Bytes}
use Rattle.model.specs.State.{State}

pub record Effect : Type 0 where
  pub state : State
  pub bytes : Bytes
  pub mask : LaneSet

-- an event that reads nothing and commissions nothing
abbrev pub on_state : State → Effect
on_state s = record { state = s; bytes = []; mask = 0 }
