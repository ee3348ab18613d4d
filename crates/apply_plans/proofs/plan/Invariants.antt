use mathlib.Core.Path.{◌≡◌}
use Rattle.model.specs.Map.{staged_base}
use Rattle.model.specs.View.{view_of}
use Rattle.apply_plans.specs.Plans.{found_for, Plans}
use Rattle.apply_plans.proofs.plan.Given as goal

abbrev pub invariant-loop-lane : goal.invariant-loop-lane
invariant-loop-lane l = Plans l.kind l.set (view_of (staged_base l.set) l.image) l.busy l.selected l.lane (record { marked = l.marked; given = l.given })
    × (l.last ≡ found_for l.kind (view_of (staged_base l.set) l.image) l.busy l.selected l.last.lane)
