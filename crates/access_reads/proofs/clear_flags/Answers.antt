use mathlib.Core.Path.{◌∙◌}
use Rattle.access_reads.proofs.Runs.{run_cleared, none_met}
use Rattle.access_reads.proofs.clear_flags.Goals as goal

pub returns-then-from-end : goal.returns-then-from-end
returns-then-from-end c = c.clear_run.ensures
    ∙ run_cleared _ _ _ _ _ c.told-image c.requires.0 c.requires.1 c.max-from.ensures c.min-end.ensures c.if-from-end.true

pub returns-else-from-end : goal.returns-else-from-end
returns-else-from-end c = none_met _ _ _ _ _ c.told-image c.requires.0 c.requires.1 c.max-from.ensures c.min-end.ensures c.if-from-end.false
