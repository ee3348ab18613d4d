use mathlib.Core.Path.{◌≡◌, ◌∙◌}
use native.Mathlib.Omega.{arith}
use Rattle.bits.specs.Sets.{lane_count}
use Rattle.packing.proofs.Laid.{lay_none}
use Rattle.packing.proofs.States.{lane_turn, line_laid}
use Rattle.packing_state.proofs.pack.Goals as goal

pub loop-lane-init : goal.loop-lane-init
loop-lane-init c = lay_none _ _

pub loop-lane-preserved : goal.loop-lane-preserved
loop-lane-preserved c =
    lane_turn c.args.w _ _ _ _ _ c.loop-lane-test.true (omega arith) c.loop-lane.invariant (c.copy_from_slice.ensures.after ∙ c.record_bytes.ensures)

pub returns : goal.returns
returns c =
    let e : c.loop-lane.lane ≡ lane_count = omega arith in
    line_laid c.args.w c.args.state.now _ (omega arith) (rw e at c.loop-lane.invariant)
