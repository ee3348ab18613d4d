use Prim.Native.Nat.{◌-◌}
use lib.ListN.{length}
use Rattle.pieces_ahead.specs.Standing.{standing, Goes}
use Rattle.pieces_onward.proofs.take_piece.Given as goal

abbrev pub invariant-loop-f : goal.invariant-loop-f
invariant-loop-f l = Goes l.piece (standing l.initial.f l.initial.image l.initial.out) l.f l.image l.out

abbrev pub decreases-loop-f : goal.decreases-loop-f
decreases-loop-f l = length l.piece - l.f.taken
