use mathlib.Core.Path.{sym, ◌∙◌}
use Rattle.bits.proofs.Tests.{only_true, only_false}
use Rattle.model.specs.Registers.{with_flags}
use Rattle.hardware_moves.proofs.flag_change.Goals as goal

pub returns-then-is_resting : goal.returns-then-is_resting
unfolding with_flags
returns-then-is_resting c = c.set_bits.ensures
    ∙ sym (only_true _ _ (sym c.is_resting.ensures ∙ c.if-is_resting.true))

pub returns-else-is_resting : goal.returns-else-is_resting
returns-else-is_resting c = sym (only_false _ _ (sym c.is_resting.ensures ∙ c.if-is_resting.false))
