use Rattle.list_turns.proofs.Admitted.{begins}
use Rattle.list_turns.proofs.begin.Goals as goal

pub returns : goal.returns
returns c = begins _ _ _ _ _ _ c.refusal-answer.ensures c.admitted.ensures
