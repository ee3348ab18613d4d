use Rattle.model.proofs.States.{not_done, is_done_lem}
use Rattle.door_answers.proofs.Refused.{door_room}
use Rattle.door_calls.proofs.Calls.{handed, start-refused, start_done}
use Rattle.door_calls.proofs.start.Goals as goal

pub returns-then-ne : goal.returns-then-ne
returns-then-ne c = start-refused _ _ _ _
    c.start_refusal-answer.ensures
    (not_done _ _ _ c.start_refusal-answer.ensures c.ne.ensures c.if-ne.true)
    c.answered.ensures

pub hand_back-requires : goal.hand_back-requires
hand_back-requires c = door_room _ _ (is_done_lem _ _ _ c.start_refusal-answer.ensures c.ne.ensures c.if-ne.false)

pub returns : goal.returns
returns c = start_done _ _ _ _ _
    (is_done_lem _ _ _ c.start_refusal-answer.ensures c.ne.ensures c.if-ne.false)
    (handed _ _ _ _ _ _ _ c.start-left.ensures c.hand_back.ensures.0 c.hand_back.ensures.1)
