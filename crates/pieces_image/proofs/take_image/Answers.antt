use mathlib.Core.Path.{ap₂, ◌∙◌}
use lib.ListN.{set, take}
use native.Mathlib.Numerals.{add-one}
use native.Mathlib.Omega.{arith}
use Rattle.model.specs.File.{laid_out}
use Rattle.model.specs.Stream.{started_by}
use Rattle.pieces_carried.specs.Carrying.{carried_by}
use Rattle.pieces_carried.proofs.Holding.{tidy-phase}
use Rattle.pieces_carried.proofs.Printing.{puts_none}
use Rattle.pieces_image.proofs.Images.{image_waits, image-whole}
use Rattle.pieces_image.proofs.take_image.Goals as goal

pub returns-then-come-length : goal.returns-then-come-length
unfolding carried_by
returns-then-come-length c =
    let x = set c.args.image.now c.args.come c.args.b in
    let n = c.image_bytes-length.ensures.row in
    rw (image_waits (carried_by c.args.c c.args.image.now) c.args.records x c.args.come (omega arith))
    (record {
      carried = c.more_image-carried.ensures ∙ rw (add-one c.args.come) (tidy-phase c.args.c c.requires.0 _ x);
      registers = c.put_image_byte.ensures;
      text = puts_none;
    })

pub returns : goal.returns
unfolding started_by carried_by
returns c =
    let x = set c.args.image.now c.args.come c.args.b in
    let n = c.image_bytes-length.ensures.row in
    let laid = c.clear_rest.ensures ∙ ap₂ (λ n z. laid_out (take n z)) n c.put_image_byte.ensures in
    rw (image-whole (carried_by c.args.c c.args.image.now) c.args.records x c.args.come _ (omega arith) laid)
    c.start.ensures
