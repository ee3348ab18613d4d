use Prim.Native.Nat.{◌/◌, ◌%◌}
use mathlib.Core.Path.{◌≡◌, ◌∙◌, sym}
use native.Mathlib.Omega.{arith}
use Rattle.night_text.proofs.Decimals.{two_digits}
use Rattle.night_text.proofs.Line.two.Goals as goal

pub returns : goal.returns
returns c =
    let text = c.two_digits.result in
    let e : text / 256 % 256 ≡ text / 256 = omega arith in
    let digits = two_digits c.args.x _ _ (omega arith) c.two_digits.ensures.0 (e ∙ c.two_digits.ensures.1) in
    rw (c.to_le_bytes.ensures ∙ sym digits) at c.bytes.ensures
