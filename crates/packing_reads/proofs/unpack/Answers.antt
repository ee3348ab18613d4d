use mathlib.Core.Path.{ap, ◌∙◌}
use Rattle.packing.specs.Packing.{unpacked}
use Rattle.packing.proofs.States.{unpacked_front}
use Rattle.packing_reads.proofs.unpack.Goals as goal

pub returns : goal.returns
returns c = c.unpacked.ensures ∙ ap unpacked c.front.ensures ∙ unpacked_front _ c.requires
