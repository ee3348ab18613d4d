use mathlib.Core.Path.{sym}
use Rattle.commands_messages.proofs.Codes.{code_long, code_by}
use Rattle.commands_messages.proofs.is_code_right.Goals as goal

pub returns-then-count-gt-BODY_LIMIT : goal.returns-then-count-gt-BODY_LIMIT
returns-then-count-gt-BODY_LIMIT c = sym (code_long _ c.if-count-gt-BODY_LIMIT.true)

pub returns : goal.returns
returns c = sym (code_by _ _ c.if-count-gt-BODY_LIMIT.false c.right_code.ensures)
