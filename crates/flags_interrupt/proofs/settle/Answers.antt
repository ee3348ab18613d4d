use Rattle.model.specs.Flags.{settled_image}
use Rattle.flags_interrupt.proofs.Search.{quiet-bit}
use Rattle.flags_interrupt.proofs.settle.Goals as goal

pub returns : goal.returns
unfolding settled_image
returns c = rw (← c.is_due-quiet.ensures, ← quiet-bit) c.put.ensures
