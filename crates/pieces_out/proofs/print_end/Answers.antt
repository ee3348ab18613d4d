-- What is written lies within the output.
use Rattle.std.proofs.Common.{sym, arith, length-take-le}
use Rattle.pieces.proofs.Bounds.{ended-fits}
use Rattle.pieces_out.proofs.print_end.Goals as goal

pub slice_bounds-write_all-end : goal.slice_bounds-write_all-end
slice_bounds-write_all-end g c = let f = c.finish-fed in omega (arith, f.auto.out, ended-fits _ _ f.ensures)

pub slice_bounds-write_all-end-2 : goal.slice_bounds-write_all-end-2
slice_bounds-write_all-end-2 g c = let f = c.finish-fed in sym (length-take-le _ _ (omega (arith, f.auto.out, ended-fits _ _ f.ensures)))
