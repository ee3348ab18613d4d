use mathlib.Core.Path.{sym}
use Rattle.commands.proofs.Runs.{run_past, run_short, run_here}
use Rattle.commands.proofs.runs_command.Goals as goal

pub returns-then-first-gt-RUN_ADDRESS : goal.returns-then-first-gt-RUN_ADDRESS
returns-then-first-gt-RUN_ADDRESS c = sym (run_past _ _ _ c.if-first-gt-RUN_ADDRESS.true)

pub returns-then-count-first : goal.returns-then-count-first
returns-then-count-first c = sym (run_short _ _ _ c.if-first-gt-RUN_ADDRESS.false c.if-count-first.true)

pub returns : goal.returns
returns c = sym (run_here _ _ _ _ c.if-first-gt-RUN_ADDRESS.false c.if-count-first.false c.half_start.ensures)
