use mathlib.Core.Path.{◌≡◌}
use Rattle.bits.specs.Loop.{each}
use Rattle.bits.specs.Sets.{has}
use Rattle.model.specs.Records.{with_verdict}
use Rattle.records.proofs.Stages.{restaged}
use Rattle.model.specs.declared.lane.Verdict.TheVariants.{Pass}
use Rattle.records.proofs.advanced.Given as goal

abbrev pub invariant-loop-lane : goal.invariant-loop-lane
invariant-loop-lane l = l.record-items ≡ each (has l.group) (restaged (λ k s. with_verdict s (Pass l.n))) l.lane l.initial.record-items
