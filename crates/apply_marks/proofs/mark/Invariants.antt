use mathlib.Core.Path.{◌≡◌}
use Rattle.bits.specs.Loop.{each}
use Rattle.bits.specs.Sets.{has}
use Rattle.apply_marks.proofs.Laws.{giving}
use Rattle.apply_marks.proofs.mark.Given as goal

abbrev pub invariant-loop-lane : goal.invariant-loop-lane
invariant-loop-lane l = l.record-items ≡ each (has l.plan.marked) (giving l.plan.given) l.lane l.initial.record-items
