use native.Mathlib.Omega.{arith}
use Rattle.pages.proofs.Halves.{place_by, half_fits, offset-fits}
use borrow.Author.Rules.{rules}
use Rattle.access_reads.proofs.read.Goals as goal

pub read_half-requires : goal.read_half-requires
read_half-requires c =
    (omega (arith, half_fits c.args.image.now c.args.address, offset-fits c.args.address c.args.count c.requires.0), search rules)

pub returns : goal.returns
returns c = let a = c.args in
    rw (← (place_by a.image.now a.address (omega arith)), ← c.half_start-start.ensures) c.read_half.ensures
