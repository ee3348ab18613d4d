use mathlib.Core.Bool.{not}
use mathlib.Core.Path.{ap}
use mathlib.Core.Path.{refl, sym, ◌∙◌}
use borrow.Author.Tests.{not-true, not-false}
use Rattle.model.specs.Answers.{is_done}
use Rattle.model.specs.Step.{event_effect}
use Rattle.model.specs.Outcome.{laid_over}
use Rattle.model.specs.declared.answer.Answer.TheVariants.{NoSuchTarget, NothingOnLane}
use Rattle.step_answers.proofs.Outcomes.{refused_leaves, done_leaves, work_reads_nothing}
use Rattle.step_answers.proofs.Answered.{work_nowhere, work-idle, work_done}
use Rattle.step_module.proofs.work.Goals as goal

pub returns-then-lane-ge-COUNT : goal.returns-then-lane-ge-COUNT
unfolding is_done
returns-then-lane-ge-COUNT c = refused_leaves _ _ _ _ NoSuchTarget _ (work_nowhere _ _ _ c.if-lane-ge-COUNT.true) refl c.reply.ensures

pub returns-then-not-is_busy : goal.returns-then-not-is_busy
unfolding is_done
returns-then-not-is_busy c = refused_leaves _ _ _ _ NothingOnLane _
    (work-idle _ _ _ c.if-lane-ge-COUNT.false (sym c.is_busy.ensures ∙ not-true _ (ap not c.if-not-is_busy.true)))
    refl c.reply-then-not-is_busy.ensures

pub returns : goal.returns
unfolding event_effect laid_over
returns c = let lane = c.if-lane-ge-COUNT.false in
    let busy = c.is_busy.ensures in
    let w = c.work-worked.ensures in
    done_leaves _ _ _ _ _ _ _ _ _ (work_done _ _ _ lane (sym busy ∙ not-false _ (ap not c.if-not-is_busy.false)))
    refl refl w.image c.settle.ensures w.working (rw (work_reads_nothing _ _)) w.mask
