use native.Mathlib.Omega.{arith}
use Rattle.model.specs.Answers.{number}
use Rattle.night_text.proofs.Lines.{bad_most, number_lt}
use Rattle.night_buffers.proofs.Buffers.{gives_none, gives_text}
use Rattle.night_buffers.proofs.print_bad.Goals as goal

pub returns-then-out-lt-BAD_ROOM : goal.returns-then-out-lt-BAD_ROOM
returns-then-out-lt-BAD_ROOM c = gives_none c.if-out-lt-BAD_ROOM.true

pub put_bad-n-requires : goal.put_bad-n-requires
put_bad-n-requires c = let most = bad_most (number c.args.answer) (number_lt c.args.answer) in
    rw c.from.ensures (omega arith)

pub returns : goal.returns
returns c = gives_text c.if-out-lt-BAD_ROOM.false (rw c.from.ensures at c.put_bad-n.ensures)
