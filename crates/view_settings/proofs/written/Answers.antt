use borrow.Author.Tests.{ne_eqb}
use Rattle.bits.specs.Choice.{pick}
use Rattle.model.specs.Work.{written_settings}
use Rattle.view_settings.proofs.written.Goals as goal

pub returns-then-explicit-eq1 : goal.returns-then-explicit-eq1
unfolding written_settings pick
returns-then-explicit-eq1 c = let used = c.is_used.ensures in
    rw (← used, c.if-is_used.true, pick, ← c.explicit.ensures, c.if-explicit-eq1.true, pick)

pub returns-else-explicit-eq1 : goal.returns-else-explicit-eq1
unfolding written_settings pick
returns-else-explicit-eq1 c = let used = c.is_used.ensures in
    let own = ne_eqb _ _ c.if-explicit-eq1.false in
    rw (← used, c.if-is_used.true, pick, ← c.explicit.ensures, own, pick) c.by_module.ensures

pub returns-else-is_used : goal.returns-else-is_used
unfolding written_settings pick
returns-else-is_used c = rw (← c.is_used.ensures, c.if-is_used.false, pick)
