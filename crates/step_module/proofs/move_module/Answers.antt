use mathlib.Core.Path.{refl}
use Rattle.model.specs.Step.{event_effect}
use Rattle.step_answers.proofs.Outcomes.{image_leaves}
use Rattle.step_answers.proofs.Answered.{module_done}
use Rattle.step_module.proofs.move_module.Goals as goal

pub returns : goal.returns
unfolding event_effect
returns c = image_leaves _ _ _ _ _ _ _ _ (module_done _ _) refl c.move_module.ensures c.settle.ensures c.reply.ensures
