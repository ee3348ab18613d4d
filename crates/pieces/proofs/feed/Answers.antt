use lib.ListN.{length}
use mathlib.Core.Path.{ap, sym, subst, ◌∙◌}
use Rattle.model.specs.declared.answer.Answer.TheVariants.{Done, WrongLength, ShortBuffer}
use Rattle.pieces.specs.Feeding.{feed_left, IsFed}
use Rattle.pieces.proofs.Left.{left_wrong, left_short, fed-unchanged, fed_left}
use Rattle.pieces.proofs.feed.Goals as goal

pub returns-in_default : goal.returns-in_default
returns-in_default c = let a = c.args in
    fed-unchanged WrongLength a.carried a.image.now a.out.now (left_wrong a.carried a.image.now a.piece.now a.out.now c.in_default.ensures.cases) c.refused.ensures

pub returns-then-out-lt-LONGEST_LINE : goal.returns-then-out-lt-LONGEST_LINE
returns-then-out-lt-LONGEST_LINE c = let a = c.args in
    let whole = c.in-Some.ensures.cases in
    subst (λ x. IsFed (feed_left a.carried a.image.now a.piece.now a.out.now) c.refused-then-out-lt-LONGEST_LINE.result x a.out.now) (sym whole.same)
    (fed-unchanged ShortBuffer a.carried a.image.now a.out.now
    (left_short a.carried a.image.now a.piece.now a.out.now whole.long c.if-out-lt-LONGEST_LINE.true)
    c.refused-then-out-lt-LONGEST_LINE.ensures)

pub returns : goal.returns
returns c = let a = c.args in
    let f = c.take_piece-f in
    let whole = c.in-Some.ensures.cases in
    subst (λ x. IsFed (feed_left a.carried x a.piece.now a.out.now) (record { answer = Done; taken = f.result.taken; printed = f.result.come.at; carried = f.result.come.carried }) f.new.image f.new.out) whole.same
    (fed_left a.carried c.in-Some.image.now _ a.piece.now a.out.now _ f.result (ap length whole.same ∙ whole.long) c.if-out-lt-LONGEST_LINE.false f.ensures.0 f.ensures.1)
