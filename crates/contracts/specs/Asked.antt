-- Events that are asked by a call of their own.
use Rattle.std.specs.Prelude.{[]}
use Rattle.model.specs.Step.{event}
use Rattle.model.specs.declared.event.Call.{Call}
use Rattle.model.specs.declared.event.Event.{Event}

-- an event that carries no bytes
abbrev pub asked : Call → Event
asked c = event c []
