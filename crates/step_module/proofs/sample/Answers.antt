use mathlib.Core.Path.{refl}
use Rattle.model.specs.Answers.{is_done}
use Rattle.model.specs.Step.{event_effect}
use Rattle.model.specs.declared.answer.Answer.TheVariants.{NoSuchTarget}
use Rattle.step_answers.proofs.Outcomes.{refused_leaves, state_leaves}
use Rattle.step_answers.proofs.Answered.{sample_nowhere, sample_done}
use Rattle.step_module.proofs.sample.Goals as goal

pub returns-then-lane-ge-COUNT : goal.returns-then-lane-ge-COUNT
unfolding is_done
returns-then-lane-ge-COUNT c = refused_leaves _ _ _ _ NoSuchTarget _ (sample_nowhere _ _ _ _ c.if-lane-ge-COUNT.true) refl c.reply.ensures

pub returns : goal.returns
unfolding event_effect
returns c = state_leaves _ _ _ _ _ _ _ _ _
    (sample_done _ _ _ _ c.if-lane-ge-COUNT.false)
    refl
    c.sample-working.ensures
    c.settle.ensures
    c.reply-2.ensures
