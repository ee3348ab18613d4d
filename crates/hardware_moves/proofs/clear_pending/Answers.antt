use mathlib.Core.Path.{sym, ◌∙◌}
use Rattle.bits.proofs.Tests.{only_true, only_false}
use Rattle.model.specs.Registers.{with_pending}
use Rattle.hardware_moves.proofs.clear_pending.Goals as goal

pub returns-then-is_initialized : goal.returns-then-is_initialized
unfolding with_pending
returns-then-is_initialized c = c.clear_bits.ensures
    ∙ sym (only_true _ _ (sym c.is_initialized.ensures ∙ c.if-is_initialized.true))

pub returns-else-is_initialized : goal.returns-else-is_initialized
returns-else-is_initialized c = sym (only_false _ _ (sym c.is_initialized.ensures ∙ c.if-is_initialized.false))
