use native.Mathlib.Omega.{arith}
use Rattle.pieces_ahead.proofs.Stretches.{goes_on}
use Rattle.pieces_onward.proofs.Standing.{goes_end, tidied_tidy, tidied_begins}
use Rattle.pieces_onward.proofs.take_piece.Goals as goal

pub ahead-f-requires : goal.ahead-f-requires
ahead-f-requires c = record { tidy = tidied_tidy c.args.carried c.tidied-carried.ensures; within = omega arith; fits = omega arith }

pub returns : goal.returns
returns c = let a = c.args in
    let l = c.loop-f in
    let first = tidied_begins a.carried c.tidied-carried.ensures a.image.now a.piece.now a.out.now in
    (l.invariant.stands.tidy, goes_end l.f l.out (goes_on (goes_on first c.ahead-f.ensures) l.invariant) c.loop-f-test.false)
