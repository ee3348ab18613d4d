use native.Mathlib.Omega.{arith}
use Rattle.bits.proofs.Sets.{lies_in}
use Rattle.bits.specs.Sets.{lane_count, every_in}
use Rattle.bits_sets.proofs.lies_in.Goals as goal

pub returns : goal.returns
unfolding every_in
returns c = lies_in lane_count _ _ (omega arith) (omega arith)
