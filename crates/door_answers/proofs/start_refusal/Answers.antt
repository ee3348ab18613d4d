use Rattle.door_answers.proofs.Refused.{door_refused, door_short, door_done}
use Rattle.door_answers.proofs.start_refusal.Goals as goal

pub returns-then-ne : goal.returns-then-ne
returns-then-ne c = door_refused _ _ _ _ c.refusal-answer.ensures c.ne.ensures c.if-ne.true

pub returns-then-room-lt-STATE_LENGTH : goal.returns-then-room-lt-STATE_LENGTH
returns-then-room-lt-STATE_LENGTH c = door_short _ _ _ _ c.refusal-answer.ensures c.ne.ensures c.if-ne.false c.if-room-lt-STATE_LENGTH.true

pub returns : goal.returns
returns c = door_done _ _ _ _ c.refusal-answer.ensures c.ne.ensures c.if-ne.false c.if-room-lt-STATE_LENGTH.false
