use native.Mathlib.Omega.{arith}
use mathlib.Core.Path.{◌≡◌, sym, ◌∙◌}
use borrow.Author.Tests.{ltb-true, ltb-false}
use Rattle.bits.proofs.Tests.{split, pick_true, pick-false}
use Rattle.night_records.proofs.data_bytes.Goals as goal

pub returns : goal.returns
returns c = (
  split _
      (λ t. let h = ltb-true 8 c.args.count t in let e : c.min.result ≡ 8 = omega arith in e ∙ sym (pick_true _ _ t))
      (λ t. let h = ltb-false 8 c.args.count t in let e : c.min.result ≡ c.args.count = omega arith in e ∙ sym (pick-false _ _ t)),
  omega arith,
)
