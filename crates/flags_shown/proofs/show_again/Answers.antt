use mathlib.Core.Path.{sym, ◌∙◌}
use Rattle.flags_shown.proofs.Shown.{none_read, none-on}
use Rattle.flags_shown.proofs.show_again.Goals as goal

pub returns-else-is_any_on : goal.returns-else-is_any_on
returns-else-is_any_on c = none-on _ _ _ _ (sym c.is_any_on.ensures ∙ c.if-is_any_on.false)

pub returns-else-meets_flags : goal.returns-else-meets_flags
returns-else-meets_flags c = none_read _ _ _ _ (sym c.meets_flags.ensures ∙ c.if-meets_flags.false)
