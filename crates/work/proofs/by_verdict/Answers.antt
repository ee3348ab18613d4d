use Rattle.bits.specs.Choice.{pick}
use borrow.Author.Tests.{lt-ltb, le-ltb}
use mathlib.Core.Path.{refl}
use Rattle.model.specs.Work.{work_effect_by}
use Rattle.work.proofs.by_verdict.Goals as goal

pub returns-in-Reject : goal.returns-in-Reject
unfolding work_effect_by
returns-in-Reject c = let code = c.rejected.ensures in
    let left = c.close-working.ensures in
    rw (c.in-Reject.is, work_effect_by)
    (record { image = rw code at left.image; working = rw code at left.working; mask = refl })

pub returns-then-n-lt-COUNT : goal.returns-then-n-lt-COUNT
unfolding work_effect_by pick
returns-then-n-lt-COUNT c = let left = c.copy_next-working.ensures in
    let lane = lt-ltb _ _ c.if-n-lt-COUNT.true in
    rw (c.in-Pass.is, work_effect_by, lane, pick)
    (record { image = left.image; working = left.working; mask = refl })

pub returns-else-n-lt-COUNT : goal.returns-else-n-lt-COUNT
unfolding work_effect_by pick
returns-else-n-lt-COUNT c = let none = le-ltb _ _ c.if-n-lt-COUNT.false in
    rw (c.in-Pass.is, work_effect_by, none, pick) c.close_pass.ensures
