use mathlib.Core.Path.{ap, ◌∙◌}
use Rattle.model.specs.Records.{is_in_progress}
use Rattle.bits.proofs.Turns.{mask_begin, mask_turn}
use Rattle.records.proofs.busy_lanes.Goals as goal

pub loop-lane-init : goal.loop-lane-init
loop-lane-init c = mask_begin _

pub loop-lane-preserved : goal.loop-lane-preserved
loop-lane-preserved c = mask_turn _ _ _ _ _ c.loop-lane.invariant (c.is_in_progress-yes.ensures ∙ ap is_in_progress c.stage_at.ensures) c.with_lane-busy.ensures
