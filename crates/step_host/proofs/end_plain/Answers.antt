use native.Mathlib.Omega.{arith}
use Rattle.access_limits.proofs.Halves.{half_ends}
use Rattle.step_host.proofs.Ends.{runs_none}
use Rattle.step_host.proofs.end_plain.Goals as goal

pub overflow_add-first : goal.overflow_add-first
overflow_add-first c = omega (arith, half_ends c.args.address)

pub returns-else-first-count : goal.returns-else-first-count
returns-else-first-count c = runs_none _ _ _ c.if-first-count.false
