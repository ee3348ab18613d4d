-- No more than the piece was taken.
use Rattle.std.proofs.Common.{◌-◌, ◌≤◌, length}
use Rattle.pieces_out.proofs.print_piece.Given as goal

abbrev pub invariant-loop-from : goal.invariant-loop-from
invariant-loop-from g l = l.from ≤ length l.piece

abbrev pub decreases-loop-from : goal.decreases-loop-from
decreases-loop-from g l = length l.piece - l.from
