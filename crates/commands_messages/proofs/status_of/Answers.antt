use mathlib.Core.Path.{sym, ◌∙◌}
use Rattle.commands_messages.proofs.Codes.{status-right, status-wrong}
use Rattle.commands_messages.proofs.status_of.Goals as goal

pub returns-then-is_code_right : goal.returns-then-is_code_right
returns-then-is_code_right c = status-right _ _ _ (sym c.is_code_right.ensures ∙ c.if-is_code_right.true) c.word2-number.ensures c.from.ensures

pub returns : goal.returns
returns c = sym (status-wrong _ (sym c.is_code_right.ensures ∙ c.if-is_code_right.false))
