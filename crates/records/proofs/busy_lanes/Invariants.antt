use mathlib.Core.Path.{◌≡◌}
use Rattle.bits.specs.Sets.{mask_of}
use Rattle.model.specs.Records.{stage_at, is_in_progress}
use Rattle.records.proofs.busy_lanes.Given as goal

abbrev pub invariant-loop-lane : goal.invariant-loop-lane
invariant-loop-lane now = now.busy ≡ mask_of now.lane (λ l. is_in_progress (stage_at now.w l))
