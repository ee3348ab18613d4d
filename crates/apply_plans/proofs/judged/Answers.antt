use mathlib.Core.Path.{sym, ◌∙◌}
use Rattle.apply_plans.proofs.Laws.{known_busy, known_free}
use Rattle.apply_plans.proofs.judged.Goals as goal

pub returns-then-meets : goal.returns-then-meets
returns-then-meets c = known_busy _ _ _ _ _ (sym c.meets.ensures ∙ c.if-meets.true)

pub returns : goal.returns
returns c = known_free _ _ _ _ _ _ (sym c.meets.ensures ∙ c.if-meets.false) c.verdict_of.ensures
