use native.Mathlib.Omega.{arith}
use Rattle.night_text.proofs.Decimals.{decimal_parts, length_parts}
use Rattle.night_text.proofs.Laid.{adds_then}
use Rattle.night_text.proofs.Line.index.Goals as goal

pub returns : goal.returns
returns c = let x = c.args.x in
    let n = length_parts x (omega arith) (omega arith) in
    rw (decimal_parts x (omega arith) (omega arith)) (adds_then (omega arith) c.many.ensures c.four.ensures)
