use borrow.Author.Rules.{rules}
use native.Mathlib.Omega.{arith}
use Rattle.model.specs.Text.{ascii, bad_line}
use Rattle.night_text.proofs.Laid.{adds_then, ends}
use Rattle.night_text.proofs.Lines.{bad_room_lem}
use Rattle.night_text.proofs.put_bad.Goals as goal

pub returns : goal.returns
unfolding bad_line ascii
returns c = let room = bad_room_lem c.args.answer in
    ends (adds_then (omega arith) (adds_then (omega arith) c.bytes.ensures c.answer.ensures) c.bytes-2.ensures) (search rules)
