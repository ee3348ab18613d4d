use native.Mathlib.Omega.{arith}
use Rattle.night_image.proofs.Images.{cleared}
use Rattle.night_image.proofs.clear_rest.Goals as goal

pub returns : goal.returns
returns c = cleared c.args.image.now _ c.args.n _ c.told-image (omega arith) (c.fill.ensures.after (λ y e. e))
