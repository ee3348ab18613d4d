-- What of the bytes that a call read lies in its buffer.
use Rattle.std.specs.Prelude.{List, [], ℕ, take}
use Rattle.bits.specs.Choice.{pick}
use Rattle.model.specs.Answers.{is_done}
use Rattle.model.specs.Step.{read_count}
use Rattle.model.specs.Outcome.{Outcome}
use Rattle.model.specs.declared.event.Call.{Call}

-- the bytes that a call gave: where it is done, as many as it reads, at the front of its buffer
unfoldable pub given_by : Call → Outcome → List ℕ
given_by c o = pick (is_done o.answer) (take (read_count c) o.buffer) []
