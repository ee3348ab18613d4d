use mathlib.Core.Path.{refl}
use Rattle.pieces_onward.proofs.Standing.{byte_goes}
use Rattle.pieces_onward.proofs.byte_ahead.Goals as goal

pub returns : goal.returns
returns c = let a = c.args in
    let p = c.requires in
    let t = c.take-come in
    (refl, byte_goes a.f a.image.now _ a.piece.now a.out.now _ _ p.0 p.1 p.2 t.auto.out t.ensures)
