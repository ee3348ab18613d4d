use native.Mathlib.Omega.{arith}
use Rattle.pieces_ahead.proofs.Stretches.{over_goes}
use Rattle.pieces_ahead.proofs.ahead.Goals as goal

pub returns-in-Over : goal.returns-in-Over
returns-in-Over c =
    over_goes c.args.f c.args.image.now c.args.piece.now c.args.out.now c.requires c.in-Over.is (omega arith)
