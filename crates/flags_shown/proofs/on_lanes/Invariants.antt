use mathlib.Core.Path.{◌≡◌}
use Rattle.bits.specs.Sets.{has, mask_of}
use Rattle.model.specs.Records.{on_at}
use Rattle.flags_shown.proofs.on_lanes.Given as goal

abbrev pub invariant-loop-lane : goal.invariant-loop-lane
invariant-loop-lane now = now.lanes ≡ mask_of now.lane (λ l. has (on_at now.w l) now.flag)
