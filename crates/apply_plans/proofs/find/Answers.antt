use mathlib.Core.Path.{sym, ◌∙◌}
use Rattle.apply_plans.proofs.Laws.{found_again}
use Rattle.apply_plans.proofs.find.Goals as goal

pub returns-then-is_in : goal.returns-then-is_in
returns-then-is_in c = let s = c in
    found_again _ _ _ _ _ s.args.last s.requires.2 (sym c.is_in.ensures ∙ c.if-is_in.true) s.requires.1
