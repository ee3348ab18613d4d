use Rattle.model.specs.Registers.{with_flags}
use Rattle.model.specs.Flags.{condition_image}
use Rattle.flags.proofs.condition.Goals as goal

pub returns : goal.returns
unfolding condition_image with_flags
returns c = rw (← c.on.ensures) c.set_bits.ensures
