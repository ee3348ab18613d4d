use mathlib.Core.Path.{sym, ◌∙◌}
use Rattle.pages_window.proofs.Taking.{shown_trigger, shown_byte_lem}
use Rattle.pages_window.proofs.shown.Goals as goal

pub returns-in-None : goal.returns-in-None
returns-in-None c = c.without_reset.ensures ∙ sym (shown_byte_lem _ _ (sym c.trigger_at.ensures ∙ c.in-None.is))

pub returns-in-Some : goal.returns-in-Some
returns-in-Some c = sym (shown_trigger _ _ _ (sym c.trigger_at.ensures ∙ c.in-Some.is))
