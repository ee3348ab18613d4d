use lib.ListN.{take}
use Rattle.model.specs.Text.{hex_bytes}
use Rattle.night_text.specs.Lines.{Adds}
use Rattle.night_text.proofs.Line.hex.Given as goal

abbrev pub invariant-loop-b : goal.invariant-loop-b
invariant-loop-b l = Adds (hex_bytes (take l.b-index l.bytes)) l.initial.self l.self
