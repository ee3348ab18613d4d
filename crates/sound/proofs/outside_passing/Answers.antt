use mathlib.Core.Path.{sym, ◌∙◌}
use Rattle.sound.proofs.Conditions.{outside_used, outside_unused}
use Rattle.sound.proofs.outside_passing.Goals as goal

pub returns-then-used_at : goal.returns-then-used_at
returns-then-used_at c = outside_used _ _ _ (sym c.used_at.ensures ∙ c.if-used_at.true) c.in_whole_path.ensures

pub returns-else-used_at : goal.returns-else-used_at
returns-else-used_at c = outside_unused _ _ _ (sym c.used_at.ensures ∙ c.if-used_at.false) c.is_at_rest.ensures
