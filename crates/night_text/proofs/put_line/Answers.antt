use borrow.Author.Rules.{rules}
use native.Mathlib.Omega.{arith}
use lib.ListN.{take}
use lib.Seq.{length-take-le}
use Rattle.night_text.proofs.Laid.{adds_then, ends}
use Rattle.night_text.proofs.Lines.{length_hex_taken, line_parts, line_room_lem}
use Rattle.night_text.proofs.put_line.Goals as goal

pub hex-requires : goal.hex-requires
hex-requires c = let a = c.args in
    omega (arith, line_room_lem a.index a.answer a.count a.bytes.now (omega arith), length-take-le a.count a.bytes.now (omega arith))

pub returns : goal.returns
returns c = let a = c.args in
    let room = line_room_lem a.index a.answer a.count a.bytes.now (omega arith) in
    let hex = length_hex_taken a.count a.bytes.now (omega arith) in
    rw (line_parts a.index a.answer (take a.count a.bytes.now))
    (ends (adds_then (omega arith) (adds_then (omega arith) (adds_then (omega arith) (adds_then (omega arith) c.index.ensures c.bytes.ensures) c.answer.ensures) c.hex.ensures) c.bytes-2.ensures) (search rules))
