use mathlib.Core.Path.{◌≡◌}
use Prim.Native.Nat.{◌≤◌, ◌-◌}
use lib.Dec.{eqb}
use Rattle.bits.specs.Number.{field}
use Rattle.bits.specs.Sets.{lane_count}
use Rattle.model.specs.View.{of, settings_of}
use Rattle.view_paths.proofs.Gathered.{gathered}
use Rattle.view_paths.proofs.lanes_with.Given as goal

abbrev pub invariant-loop-k : goal.invariant-loop-k
invariant-loop-k l = (l.k ≤ lane_count)
    × (l.found ≡ gathered (λ m. eqb (field (of (settings_of l.base l.image) m).config l.shift l.width) l.value) l.k)

abbrev pub decreases-loop-k : goal.decreases-loop-k
decreases-loop-k l = lane_count - l.k
