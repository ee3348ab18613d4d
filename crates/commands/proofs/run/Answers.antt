use Rattle.model.specs.Commands.{command_image}
use Rattle.commands.proofs.run.Goals as goal

pub returns : goal.returns
unfolding command_image
returns c = rw (← c.status_of-status.ensures, ← c.reply.ensures) c.complete.ensures
