use mathlib.Core.Path.{◌≡◌}
use mathlib.Core.Bool.{true}
use Rattle.bits.specs.Loop.{each}
use Rattle.model.specs.Flags.{condition_on}
use Rattle.flags_lasting.proofs.Ons.{turned}
use Rattle.flags_lasting.proofs.after_condition.Given as goal

abbrev pub invariant-loop-lane : goal.invariant-loop-lane
invariant-loop-lane l = l.record-items ≡ each (λ m. true) (turned (condition_on l.flag l.on l.off)) l.lane l.initial.record-items
