use native.Mathlib.Omega.{arith}
use Rattle.bits.proofs.Sets.{shares}
use Rattle.bits.specs.Sets.{lane_count, some_in}
use Rattle.bits_sets.proofs.meets.Goals as goal

pub returns : goal.returns
unfolding some_in
returns c = shares lane_count _ _ (omega arith)
