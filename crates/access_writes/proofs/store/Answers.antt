use native.Mathlib.Omega.{arith}
use Rattle.bits.specs.Choice.{pick}
use Rattle.access_writes.proofs.Writing.{part_set}
use Rattle.access_writes.proofs.store.Goals as goal

pub returns-then-writable : goal.returns-then-writable
unfolding pick
returns-then-writable c = let a = c.args in
    rw (← c.writable.ensures, c.if-writable.true)
    (part_set a.image.now _ a.start 128 a.offset a.v (omega arith) (omega arith) c.store_on_page.ensures)

pub returns-else-writable : goal.returns-else-writable
unfolding pick
returns-else-writable c = rw (← c.writable.ensures, c.if-writable.false)
