use borrow.Author.Rules.{rules}
use mathlib.Core.Path.{refl, sym, ◌∙◌}
use Rattle.pieces_carried.specs.Carrying.{carried_by, kept}
use Rattle.pieces_carried.proofs.Printing.{puts_none}
use Rattle.pieces_header.proofs.Headers.{header_wrong, header_right}
use Rattle.pieces_header.proofs.take_whole_header.Goals as goal

pub returns-then-not-is_header : goal.returns-then-not-is_header
returns-then-not-is_header c = λ x. rw (header_wrong (carried_by c.args.c x) c.args.header.now (search rules) (sym c.is_header.ensures ∙ c.if-not-is_header.true)) (c.refuse.ensures x)

pub returns : goal.returns
unfolding kept carried_by
returns c = λ x. rw (header_right (carried_by c.args.c x) c.args.header.now (search rules) (sym c.is_header.ensures ∙ c.if-not-is_header.false))
    (record { carried = rw c.record_count-records.ensures at c.entering-carried.ensures; registers = refl; text = puts_none })
