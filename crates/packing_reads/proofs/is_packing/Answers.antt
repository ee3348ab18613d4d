use mathlib.Core.Path.{ap, ◌∙◌}
use Rattle.packing.specs.Packing.{is_packing}
use Rattle.packing.proofs.States.{packing_short, packing_front}
use Rattle.packing_reads.proofs.is_packing.Goals as goal

pub returns-then-state-lt-STATE_LENGTH : goal.returns-then-state-lt-STATE_LENGTH
returns-then-state-lt-STATE_LENGTH c = packing_short _ c.if-state-lt-STATE_LENGTH.true

pub returns : goal.returns
returns c = c.is_packed.ensures ∙ ap is_packing c.front.ensures ∙ packing_front _ c.if-state-lt-STATE_LENGTH.false
