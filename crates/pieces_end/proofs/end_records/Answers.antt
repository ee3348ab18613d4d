use mathlib.Core.Path.{◌≡◌, refl, sym, ◌∙◌}
use mathlib.Core.Bool.{true, false}
use lib.Dec.{leb, eqb}
use Rattle.bits.specs.Choice.{both}
use Rattle.bits.proofs.Tests.{and_both}
use Rattle.pieces_carried.specs.Carrying.{carried_by, kept}
use Rattle.pieces_carried.proofs.Holding.{tidy-count}
use Rattle.pieces_carried.proofs.Printing.{puts_none}
use Rattle.pieces_end.proofs.Ending.{end_whole, end_early}
use Rattle.pieces_end.proofs.end_records.Goals as goal

pub returns-then-records-next : goal.returns-then-records-next
unfolding carried_by kept
returns-then-records-next c =
    let whole : both (leb c.args.records c.args.next) (eqb c.args.c.count 0) ≡ true = sym (and_both _ _) ∙ c.if-records-next.true in
    λ x. rw (end_whole (carried_by c.args.c x) c.args.next c.args.records (rw (← tidy-count c.requires.0) whole))
    (record { carried = c.entering.ensures; registers = refl; text = puts_none })

pub returns : goal.returns
unfolding carried_by
returns c =
    let early : both (leb c.args.records c.args.next) (eqb c.args.c.count 0) ≡ false = sym (and_both _ _) ∙ c.if-records-next.false in
    λ x. rw (end_early (carried_by c.args.c x) c.args.next c.args.records (rw (← tidy-count c.requires.0) early)) (c.refuse.ensures x)
