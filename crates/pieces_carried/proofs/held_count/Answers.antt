use native.Mathlib.Omega.{arith}
use mathlib.Core.Path.{◌≡◌, sym, ◌∙◌}
use borrow.Author.Tests.{ltb-true, ltb-false}
use Rattle.bits.proofs.Tests.{split, pick_true, pick-false}
use Rattle.pieces_carried.specs.Carrying.{held_count}
use Rattle.pieces_carried.proofs.held_count.Goals as goal

pub returns : goal.returns
unfolding held_count
returns c = (
  split _
      (λ t. let h = ltb-true c.args.count 16 t in let e : c.min.result ≡ c.args.count = omega arith in e ∙ sym (pick_true _ _ t))
      (λ t. let h = ltb-false c.args.count 16 t in let e : c.min.result ≡ 15 = omega arith in e ∙ sym (pick-false _ _ t)),
  omega arith,
)
