use mathlib.Core.Bool.{not}
use mathlib.Core.Path.{sym, ◌∙◌, ap}
use Rattle.bits.proofs.Tests.{only_true, only_false}
use Rattle.model.specs.Power.{module_moved_image}
use Rattle.model.proofs.States.{module_state_is}
use Rattle.power_moves.proofs.move_to.Goals as goal

pub returns-then-ne : goal.returns-then-ne
unfolding module_moved_image
returns-then-ne c = c.enter.ensures ∙ sym (only_true _ _ (ap not (sym (module_state_is _ _)) ∙ sym c.ne.ensures ∙ c.if-ne.true))

pub returns-else-ne : goal.returns-else-ne
unfolding module_moved_image
returns-else-ne c = sym (only_false _ _ (ap not (sym (module_state_is _ _)) ∙ sym c.ne.ensures ∙ c.if-ne.false))
