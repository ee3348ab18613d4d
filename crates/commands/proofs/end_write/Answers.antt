use Rattle.bits.specs.Choice.{only_if}
use Rattle.commands.proofs.end_write.Goals as goal

pub returns-then-runs_command : goal.returns-then-runs_command
unfolding only_if
returns-then-runs_command c = rw (← c.runs_command.ensures, c.if-runs_command.true) c.run.ensures

pub returns-else-runs_command : goal.returns-else-runs_command
unfolding only_if
returns-else-runs_command c = rw (← c.runs_command.ensures, c.if-runs_command.false)
