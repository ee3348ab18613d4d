use Rattle.pieces_ahead.proofs.Stretches.{records_go}
use Rattle.pieces_ahead.proofs.records_ahead.Goals as goal

pub returns : goal.returns
returns c =
    let ran = c.play-played.ensures in
    records_go c.args.f _ c.args.image.now _ c.args.piece.now c.args.out.now _ c.args.next c.args.records c.play-played.result c.requires.0 c.requires.1 c.requires.2 c.requires.3 ran c.between.ensures
