use Prim.Native.Nat.{◌+◌, ◌-◌}
use native.Mathlib.Omega.{arith}
use Rattle.pieces_ahead.proofs.Stretches.{copied_over, image_goes}
use Rattle.pieces_ahead.proofs.image_ahead.Goals as goal

pub returns : goal.returns
returns c = λ out room.
    let n = c.copied_bytes-n.ensures in
    let bytes = c.image_bytes-length.ensures.row in
    let k = c.copied_bytes-n.result in
    let copied = copied_over c.args.image.now c.args.piece.now _ c.args.come c.args.f.taken k (c.args.come + k - c.args.come) (c.args.f.taken + k - c.args.f.taken) (omega arith) (omega arith) c.copy_from_slice.ensures.after in
    image_goes c.args.f c.args.image.now _ c.args.piece.now out c.args.come c.args.records k c.requires.0 c.requires.2 c.told-image (omega arith) (omega arith) copied room
