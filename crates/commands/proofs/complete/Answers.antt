use Rattle.model.specs.Commands.{completed_image}
use Rattle.commands.proofs.complete.Goals as goal

pub returns : goal.returns
unfolding completed_image
returns c = rw (← c.from.ensures) c.put.ensures
