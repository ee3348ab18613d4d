use native.Mathlib.Omega.{arith}
use Rattle.model.specs.Access.{byte_written_state}
use Rattle.pages.proofs.Halves.{place_by, half_fits}
use borrow.Author.Rules.{rules}
use Rattle.access_writes.proofs.write_byte.Goals as goal

pub write_at-requires : goal.write_at-requires
write_at-requires c = let a = c.args in
    (omega (arith, half_fits a.image.now a.address), omega arith)

pub returns : goal.returns
unfolding byte_written_state
returns c = let a = c.args in
    rw (← (place_by a.image.now a.address (omega arith)), ← c.half_start-start.ensures) c.write_at.ensures
