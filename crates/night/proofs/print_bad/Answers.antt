-- An answer's number has two digits at most, so its line has room, and what is written lies within the output.
use Rattle.std.proofs.Common.{sym, arith, length-take-le}
use Rattle.model.specs.Answers.{number}
use Rattle.night_text.proofs.Lines.{bad_most, number_lt}
use Rattle.night_text.proofs.Laid.{puts_within}
use Rattle.night.proofs.print_bad.Goals as goal

pub put_bad-n-requires : goal.put_bad-n-requires
put_bad-n-requires g c =
    let a = c.args.answer in
    let most = bad_most (number a) (number_lt a) in
    rw c.from-number.ensures (omega arith)

pub slice_bounds-write_all-end : goal.slice_bounds-write_all-end
slice_bounds-write_all-end g c = let p = c.put_bad-n in puts_within (omega arith) p.auto.out p.ensures

pub slice_bounds-write_all-end-2 : goal.slice_bounds-write_all-end-2
slice_bounds-write_all-end-2 g c = let p = c.put_bad-n in sym (length-take-le _ _ (puts_within (omega arith) p.auto.out p.ensures))
