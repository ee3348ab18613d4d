use mathlib.Core.Path.{refl}
use Rattle.model.specs.Stream.{took_in}
use Rattle.model.specs.declared.stream.Phase.TheVariants.{InHeader, Over}
use Rattle.pieces_carried.specs.Carrying.{carried_by, kept}
use Rattle.pieces_carried.proofs.Printing.{puts_none}
use Rattle.pieces_bytes.proofs.Taking.{took_at}
use Rattle.pieces_bytes.proofs.take.Goals as goal

pub returns-in-InHeader : goal.returns-in-InHeader
unfolding took_in carried_by
returns-in-InHeader c =
    rw (took_at (carried_by c.args.c c.args.image.now) c.args.b InHeader c.in-InHeader.is) (c.take_header.ensures c.args.image.now)

pub returns-in-InImage : goal.returns-in-InImage
unfolding took_in carried_by
returns-in-InImage c =
    rw (took_at (carried_by c.args.c c.args.image.now) c.args.b _ c.in-InImage.is) c.take_image.ensures

pub returns-in-InRecords : goal.returns-in-InRecords
unfolding took_in carried_by
returns-in-InRecords c =
    rw (took_at (carried_by c.args.c c.args.image.now) c.args.b _ c.in-InRecords.is) c.take_record.ensures

pub returns-in-Over : goal.returns-in-Over
unfolding took_in carried_by kept
returns-in-Over c =
    rw (took_at (carried_by c.args.c c.args.image.now) c.args.b Over c.in-Over.is) (record { carried = c.requires.0; registers = refl; text = puts_none })
