use mathlib.Core.Path.{refl}
use Rattle.model.specs.Step.{event_effect}
use Rattle.step_answers.proofs.Outcomes.{state_leaves}
use Rattle.step_answers.proofs.Answered.{line_done}
use Rattle.step_module.proofs.set_line.Goals as goal

pub returns : goal.returns
unfolding event_effect
returns c = state_leaves _ _ _ _ _ _ _ _ _ (line_done _ _ _) refl (record { image = refl; working = c.with_line-working.ensures }) c.settle.ensures c.reply.ensures
