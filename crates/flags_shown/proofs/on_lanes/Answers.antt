use native.Mathlib.Omega.{arith}
use mathlib.Core.Path.{◌≡◌, ap, ◌∙◌}
use Rattle.bits.specs.Sets.{has, lane_count}
use Rattle.bits.proofs.Turns.{mask_begin, mask_turn}
use Rattle.model.specs.Records.{on_lanes}
use Rattle.flags_shown.proofs.on_lanes.Goals as goal

pub loop-lane-init : goal.loop-lane-init
unfolding on_lanes
loop-lane-init c = mask_begin _

pub loop-lane-preserved : goal.loop-lane-preserved
loop-lane-preserved c =
    mask_turn _ _ _ _ _ c.loop-lane.invariant (c.is_on-yes.ensures ∙ ap (λ on. has on c.args.flag) c.on_at.ensures) c.with_lane-lanes.ensures

pub returns : goal.returns
unfolding on_lanes
returns c = let e : c.loop-lane.lane ≡ lane_count = omega arith in rw e at c.loop-lane.invariant
