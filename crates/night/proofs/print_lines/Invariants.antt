-- Each turn plays a record at least.
use Rattle.std.proofs.Common.{◌-◌}
use Rattle.night.proofs.print_lines.Given as goal

abbrev pub decreases-loop-next : goal.decreases-loop-next
decreases-loop-next g l = l.count - l.next
