use mathlib.Core.Path.{sym, ◌∙◌}
use borrow.Author.Tests.{eq-eqb, ne_eqb}
use Rattle.bits.proofs.Tests.{pick_true, pick-false}
use Rattle.model.specs.Access.{without_reset}
use Rattle.map.proofs.without_reset.Goals as goal

pub returns-then-i-eq-MODULE_CONTROLS : goal.returns-then-i-eq-MODULE_CONTROLS
unfolding without_reset
returns-then-i-eq-MODULE_CONTROLS c = c.put_field.ensures ∙ sym (pick_true _ _ (eq-eqb _ _ c.if-i-eq-MODULE_CONTROLS.true))

pub returns : goal.returns
unfolding without_reset
returns c = sym (pick-false _ _ (ne_eqb _ _ c.if-i-eq-MODULE_CONTROLS.false))
