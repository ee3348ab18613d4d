use mathlib.Core.Path.{sym, ◌∙◌}
use Rattle.bits.specs.Choice.{pick}
use Rattle.bits.proofs.Tests.{pick_true, pick-false, and_both}
use Rattle.model.specs.Power.{next_module_state}
use Rattle.power_moves.proofs.next_state.Goals as goal

pub returns-in-Other : goal.returns-in-Other
unfolding next_module_state pick
returns-in-Other c = rw c.in-Other.is

pub returns-then-low : goal.returns-then-low
unfolding next_module_state pick
returns-then-low c = rw (c.in-LowPwr.is, c.if-low.true)

pub returns-else-low : goal.returns-else-low
unfolding next_module_state pick
returns-else-low c = rw (c.in-LowPwr.is, c.if-low.false)

pub returns-then-low-2 : goal.returns-then-low-2
unfolding next_module_state pick
returns-then-low-2 c = rw (c.in-PwrUp.is, c.if-low-2.true)

pub returns-else-low-2 : goal.returns-else-low-2
unfolding next_module_state pick
returns-else-low-2 c = rw (c.in-PwrUp.is, c.if-low-2.false)

pub returns-then-low-dark : goal.returns-then-low-dark
unfolding next_module_state pick
returns-then-low-dark c = rw c.in-Ready.is (sym (pick_true _ _ (sym (and_both _ _) ∙ c.if-low-dark.true)))

pub returns-else-low-dark : goal.returns-else-low-dark
unfolding next_module_state pick
returns-else-low-dark c = rw c.in-Ready.is (sym (pick-false _ _ (sym (and_both _ _) ∙ c.if-low-dark.false)))

pub returns-in-PwrDn : goal.returns-in-PwrDn
unfolding next_module_state pick
returns-in-PwrDn c = rw c.in-PwrDn.is
