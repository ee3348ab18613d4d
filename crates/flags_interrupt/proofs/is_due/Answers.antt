use native.Mathlib.Omega.{arith}
use Prim.Native.Nat.{◌-◌}
use Rattle.flags_interrupt.proofs.Search.{gathered}
use Rattle.flags_interrupt.proofs.is_due.Goals as goal

pub returns : goal.returns
returns c = let s = c.args in
    gathered s.image.now c.open8.result c.open8-2.result c.open4.result (λ i. omega (arith, c.fits-image i)) c.open8.ensures
    c.open8-2.ensures c.open4.ensures
