use mathlib.Core.Bool.{not}
use mathlib.Core.Path.{ap}
use borrow.Author.Rules.{rules}
use native.Mathlib.Omega.{arith}
use mathlib.Core.Path.{refl, sym, ◌∙◌}
use borrow.Author.Tests.{not-true, not-false}
use Rattle.model.specs.Answers.{is_done}
use Rattle.model.specs.Step.{event_effect}
use Rattle.model.specs.declared.answer.Answer.TheVariants.{NoSuchTarget}
use Rattle.model.proofs.Lasting.{condition-among}
use Rattle.step_answers.proofs.Outcomes.{refused_leaves, image_leaves}
use Rattle.step_answers.proofs.Answered.{condition_nowhere, condition_done}
use Rattle.step_module.proofs.condition.Goals as goal

pub returns-then-not-is_condition_flag : goal.returns-then-not-is_condition_flag
unfolding is_done
returns-then-not-is_condition_flag c = refused_leaves _ _ _ _ NoSuchTarget _
    (condition_nowhere _ _ _ _ (sym c.is_condition_flag.ensures ∙ not-true _ (ap not c.if-not-is_condition_flag.true)))
    refl c.reply.ensures

pub condition-requires : goal.condition-requires
condition-requires c = let among = condition-among _ (sym c.is_condition_flag.ensures ∙ not-false _ (ap not c.if-not-is_condition_flag.false)) in omega arith

pub returns : goal.returns
unfolding event_effect
returns c = let known = sym c.is_condition_flag.ensures ∙ not-false _ (ap not c.if-not-is_condition_flag.false) in
    image_leaves _ _ _ _ _ _ _ _ (condition_done _ _ _ _ known) refl c.condition.ensures c.settle.ensures c.reply-2.ensures
