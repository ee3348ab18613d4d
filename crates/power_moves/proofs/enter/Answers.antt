use mathlib.Core.Path.{sym, ◌∙◌}
use Rattle.bits.proofs.Tests.{only_true, only_false}
use Rattle.power_moves.proofs.Moves.{entered_by}
use Rattle.power_moves.proofs.enter.Goals as goal

pub returns-then-is_flagged : goal.returns-then-is_flagged
returns-then-is_flagged c = let asked = c in
    let stored = asked in
    entered_by _ _ _ _ _ _ stored.from.ensures stored.put.ensures
    (c.put-then-is_flagged.ensures ∙ sym (only_true _ _ (sym asked.is_flagged.ensures ∙ c.if-is_flagged.true)))

pub returns-else-is_flagged : goal.returns-else-is_flagged
returns-else-is_flagged c = let stored = c in
    entered_by _ _ _ _ _ _ stored.from.ensures stored.put.ensures
    (sym (only_false _ _ (sym c.is_flagged.ensures ∙ c.if-is_flagged.false)))
