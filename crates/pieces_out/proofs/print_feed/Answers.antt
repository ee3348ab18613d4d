-- What is written lies within the output, and a feed takes a byte at least.
use Rattle.std.proofs.Common.{sym, arith, length-take-le}
use Rattle.pieces.proofs.Bounds.{fed-within, fed-fits, fed-moves}
use Rattle.pieces_out.proofs.print_feed.Goals as goal

pub slice_bounds-write_all-end : goal.slice_bounds-write_all-end
slice_bounds-write_all-end g c = let f = c.feed-fed in omega (arith, f.auto.out, fed-fits _ _ _ _ f.ensures)

pub slice_bounds-write_all-end-2 : goal.slice_bounds-write_all-end-2
slice_bounds-write_all-end-2 g c = let f = c.feed-fed in sym (length-take-le _ _ (omega (arith, f.auto.out, fed-fits _ _ _ _ f.ensures)))

pub returns-clause-fed : goal.returns-clause-fed
returns-clause-fed g c =
    let f = c.feed-fed.ensures in
    let p = c.requires in
    (fed-moves _ _ _ _ f c.told-image p.0 p.1, fed-within _ _ _ _ f)
