use native.Mathlib.Omega.{arith}
use lib.ListN.{length}
use Rattle.pages.proofs.Halves.{place_by, half_fits, offset-fits}
use borrow.Author.Rules.{rules}
use Rattle.access_writes.proofs.write_plain.Goals as goal

pub put_bytes-requires : goal.put_bytes-requires
put_bytes-requires c = let s = c in (
  omega (arith, half_fits s.args.image.now s.args.address),
  omega (arith, offset-fits s.args.address (length s.args.bytes.now) s.requires),
)

pub returns : goal.returns
returns c = let a = c.args in
    rw (← (place_by a.image.now a.address (omega arith)), ← c.half_start-start.ensures) c.put_bytes.ensures
