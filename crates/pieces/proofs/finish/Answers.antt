use mathlib.Core.List.{[]}
use borrow.Author.Rules.{rules}
use Rattle.model.specs.declared.answer.Answer.TheVariants.{ShortBuffer}
use Rattle.pieces.proofs.Left.{end_short, fed-unchanged, fed-ended}
use Rattle.pieces_onward.proofs.Standing.{tidied_tidy, tidied_same}
use Rattle.pieces.proofs.finish.Goals as goal

pub returns-then-out-lt-LONGEST_LINE : goal.returns-then-out-lt-LONGEST_LINE
returns-then-out-lt-LONGEST_LINE c = let a = c.args in
    fed-unchanged ShortBuffer a.carried [] a.out.now (end_short a.carried a.out.now c.if-out-lt-LONGEST_LINE.true) c.refused.ensures

pub end-t-requires : goal.end-t-requires
end-t-requires c = (tidied_tidy c.args.carried c.tidied-c.ensures, search rules)

pub returns : goal.returns
returns c = let a = c.args in
    let e = c.end-t.ensures [] in
    fed-ended a.carried a.out.now _ _ c.if-out-lt-LONGEST_LINE.false (rw (tidied_same a.carried c.tidied-c.ensures []) at e)
