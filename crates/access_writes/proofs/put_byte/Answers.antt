use borrow.Author.Tests.{eq-eqb, ne_eqb}
use Rattle.bits.specs.Choice.{pick}
use Rattle.access_writes.specs.Puts.{byte_put}
use Rattle.access_writes.proofs.put_byte.Goals as goal

pub returns-then-start-offset-eq-PAGE_SELECT : goal.returns-then-start-offset-eq-PAGE_SELECT
unfolding byte_put pick
returns-then-start-offset-eq-PAGE_SELECT c = rw (eq-eqb _ _ c.if-start-offset-eq-PAGE_SELECT.true) c.select_page.ensures

pub returns-else-start-offset-eq-PAGE_SELECT : goal.returns-else-start-offset-eq-PAGE_SELECT
unfolding byte_put pick
returns-else-start-offset-eq-PAGE_SELECT c = rw (ne_eqb _ _ c.if-start-offset-eq-PAGE_SELECT.false) c.store.ensures
