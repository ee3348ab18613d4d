use borrow.Author.Tests.{eq-eqb, ne_eqb}
use Rattle.bits.specs.Choice.{pick, either}
use Rattle.model.specs.Map.{in_ranges}
use Rattle.model.specs.Start.{start_value, is_state_byte}
use Rattle.start_image.proofs.start_value.Goals as goal

pub returns-then-i-eq-MODULE_STATE : goal.returns-then-i-eq-MODULE_STATE
unfolding start_value pick
returns-then-i-eq-MODULE_STATE c = rw (eq-eqb _ _ c.if-i-eq-MODULE_STATE.true)

pub returns-then-i-eq-MODULE_CONTROLS : goal.returns-then-i-eq-MODULE_CONTROLS
unfolding start_value pick
returns-then-i-eq-MODULE_CONTROLS c = rw (ne_eqb _ _ c.if-i-eq-MODULE_STATE.false, eq-eqb _ _ c.if-i-eq-MODULE_CONTROLS.true)

pub returns-then-on_page : goal.returns-then-on_page
unfolding start_value is_state_byte in_ranges pick either
returns-then-on_page c = rw (ne_eqb _ _ c.if-i-eq-MODULE_STATE.false, ne_eqb _ _ c.if-i-eq-MODULE_CONTROLS.false, ← c.on_page.ensures, c.if-on_page.true)

pub returns : goal.returns
unfolding start_value is_state_byte in_ranges pick either
returns c = rw (ne_eqb _ _ c.if-i-eq-MODULE_STATE.false, ne_eqb _ _ c.if-i-eq-MODULE_CONTROLS.false, ← c.on_page.ensures, c.if-on_page.false)
