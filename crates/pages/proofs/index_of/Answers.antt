use native.Mathlib.Omega.{arith}
use Rattle.pages.proofs.Halves.{place_by, half_fits}
use Rattle.pages.proofs.index_of.Goals as goal

pub overflow_add-result : goal.overflow_add-result
overflow_add-result c = omega (arith, half_fits c.args.image.now c.args.address)

pub returns : goal.returns
returns c = rw c.half_start.ensures (place_by _ _ (omega arith))
