use Prim.Native.Nat.{◌/◌, ◌%◌}
use mathlib.Core.Path.{◌≡◌, ◌∙◌, sym}
use native.Mathlib.Omega.{arith}
use Rattle.night_digits.proofs.Characters.{four_text, text_first, text_second, text_third, text_fourth, text-fits}
use Rattle.night_text.proofs.Decimals.{four_digits}
use Rattle.night_text.proofs.Line.four.Goals as goal

pub returns : goal.returns
returns c = let x = c.args.x in
    let h = c.requires.0 in
    let text = four_text x in
    let e : text / 16777216 % 256 ≡ text / 16777216 = omega (arith, text-fits x h) in
    let digits = four_digits x _ _ _ _ h (text_first x h) (text_second x h) (text_third x h) (e ∙ text_fourth x h) in
    rw (c.to_le_bytes.ensures ∙ sym digits) at c.bytes.ensures
