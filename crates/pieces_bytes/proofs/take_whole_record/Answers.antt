use Rattle.pieces_bytes.proofs.Playing.{whole-wrong, whole-right}
use borrow.Author.Rules.{rules}
use Rattle.pieces_bytes.proofs.take_whole_record.Goals as goal

pub returns-then-played-next : goal.returns-then-played-next
returns-then-played-next c =
    let ran = c.play-played.ensures in
    whole-wrong c.args.c c.args.image.now _ c.args.next c.args.records c.args.at c.args.bytes.now c.args.out.now _ _ c.requires.0 (search rules) c.requires.1 ran _ _ c.if-played-next.true c.refuse.ensures

pub returns : goal.returns
returns c =
    let ran = c.play-played.ensures in
    whole-right c.args.c c.args.image.now _ c.args.next c.args.records c.args.at c.args.bytes.now c.args.out.now _ _ c.requires.0 (search rules) c.requires.1 ran _ c.if-played-next.false c.entering-carried.ensures
