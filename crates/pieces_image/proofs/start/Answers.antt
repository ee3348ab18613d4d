use mathlib.Core.Path.{refl}
use Rattle.model.specs.Start.{started_state}
use Rattle.model.specs.Stream.{refused}
use Rattle.model.proofs.States.{not_done, is_done_lem}
use Rattle.pieces_carried.specs.Carrying.{carried_by, kept}
use Rattle.pieces_carried.proofs.Printing.{puts_none}
use Rattle.pieces_image.proofs.Images.{start-refused, start_done}
use Rattle.pieces_image.proofs.start.Goals as goal

pub returns-then-ne : goal.returns-then-ne
unfolding refused carried_by
returns-then-ne c =
    let a = c.refusal-answer in
    rw (← a.ensures, start-refused (carried_by c.args.c c.args.image.now) c.args.records c.args.image.now a.result (not_done _ _ _ refl c.ne.ensures c.if-ne.true))
    (c.refuse.ensures c.args.image.now)

pub returns : goal.returns
unfolding kept carried_by started_state
returns c =
    let a = c.refusal-answer in
    rw (← a.ensures, start_done (carried_by c.args.c c.args.image.now) c.args.records c.args.image.now a.result (is_done_lem _ _ _ refl c.ne.ensures c.if-ne.false))
    (record { carried = rw c.idle.ensures at c.entering-carried.ensures; registers = c.reset.ensures; text = puts_none })
