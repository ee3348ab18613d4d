use native.Mathlib.Omega.{arith}
use mathlib.Core.Path.{refl}
use Rattle.model.specs.Answers.{number}
use Rattle.model.specs.Stream.{refused}
use Rattle.night_text.proofs.Lines.{bad_most, number_lt}
use Rattle.pieces_carried.specs.Carrying.{carried_by, kept}
use Rattle.pieces_carried.proofs.refuse.Goals as goal

pub put_bad-at-requires : goal.put_bad-at-requires
put_bad-at-requires c = let a = c.args.answer in
    let most = bad_most (number a) (number_lt a) in
    rw c.from.ensures (omega arith)

pub returns : goal.returns
unfolding refused kept carried_by
returns c = λ x. record { carried = c.entering-carried.ensures; registers = refl; text = rw c.from.ensures at c.put_bad-at.ensures }
