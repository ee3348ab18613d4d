use mathlib.Core.Path.{refl, sym}
use native.Mathlib.Omega.{arith}
use lib.Seq.{take_all}
use Rattle.model.specs.Text.{hex_bytes}
use Rattle.night_text.proofs.Laid.{laid_none, adds_then}
use Rattle.night_text.proofs.Lines.{hex_byte, length_hex_taken, hex_next}
use Rattle.night_text.proofs.Line.hex.Goals as goal

pub loop-b-init : goal.loop-b-init
unfolding hex_bytes
loop-b-init c = record { buffer = sym (laid_none _ _); kept = refl; next = omega arith; same = refl }

pub bytes-requires : goal.bytes-requires
bytes-requires c = (omega arith, omega (arith, length_hex_taken c.loop-b.b-index c.args.bytes.now (omega arith)))

pub loop-b-preserved : goal.loop-b-preserved
unfolding hex_byte
loop-b-preserved c =
    rw (hex_next c.loop-b.b-index c.args.bytes.now c.loop-b-test.true, ← c.digit-high.ensures, ← c.digit-low.ensures)
    (adds_then (omega arith) c.loop-b.invariant c.bytes.ensures)

pub returns : goal.returns
returns c = rw (take_all c.loop-b.b-index c.args.bytes.now c.loop-b-test.false) at c.loop-b.invariant
