use mathlib.Core.Path.{refl}
use Rattle.list_turns.proofs.Laws.{turn_leaves}
use Rattle.list_turns.proofs.turn.Goals as goal

pub returns : goal.returns
returns c = turn_leaves _ _ _ _ _ _ _ _ _ refl
    c.step-stepped.ensures
    c.noted.ensures.0
    c.noted.ensures.1
