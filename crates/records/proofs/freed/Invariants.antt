use Rattle.std.proofs.Common.{None}
use mathlib.Core.Path.{◌≡◌}
use Rattle.bits.specs.Loop.{each}
use Rattle.bits.specs.Sets.{has}
use Rattle.records.proofs.Stages.{restaged}
use Rattle.records.proofs.freed.Given as goal

abbrev pub invariant-loop-lane : goal.invariant-loop-lane
invariant-loop-lane l = l.own-items ≡ each (has l.group) (restaged (λ k s. None)) l.lane l.initial.own-items
