use mathlib.Core.Path.{◌≡◌}
use mathlib.Core.Bool.{not}
use lib.ListN.{set}
use Rattle.bits.specs.Loop.{each}
use Rattle.model.specs.Map.{kept}
use Rattle.model.specs.Start.{start_value}
use Rattle.start_image.proofs.reset.Given as goal

abbrev pub invariant-loop-i : goal.invariant-loop-i
invariant-loop-i l = l.image ≡ each (λ k. not (kept k)) (λ k y. set y k (start_value k)) l.i l.initial.image
