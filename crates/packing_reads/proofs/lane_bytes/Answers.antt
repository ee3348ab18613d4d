use native.Mathlib.Omega.{arith}
use mathlib.Core.Path.{◌∙◌, refl}
use Rattle.packing.proofs.States.{lane_run}
use Rattle.packing_reads.proofs.lane_bytes.Goals as goal

pub returns : goal.returns
returns c = c.copy_from_slice.ensures.after ∙ lane_run c.args.state.now c.args.lane _ _ refl (omega arith) (omega arith)
