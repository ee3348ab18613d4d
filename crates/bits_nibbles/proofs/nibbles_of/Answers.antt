use native.Mathlib.Omega.{arith}
use Rattle.bits_nibbles.proofs.Spread.{spread_is}
use Rattle.bits_nibbles.proofs.nibbles_of.Goals as goal

pub returns : goal.returns
returns c = spread_is c.args.set (omega arith)
