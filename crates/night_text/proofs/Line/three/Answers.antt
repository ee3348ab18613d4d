use native.Mathlib.Omega.{arith}
use Rattle.night_text.proofs.Decimals.{three_parts}
use Rattle.night_text.proofs.Laid.{adds_then}
use Rattle.night_text.proofs.Line.three.Goals as goal

pub returns : goal.returns
returns c = rw (three_parts c.args.x (omega arith), ← c.digit.ensures) (adds_then (omega arith) c.bytes.ensures c.two.ensures)
