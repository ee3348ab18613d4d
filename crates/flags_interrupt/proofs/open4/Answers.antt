use native.Mathlib.Omega.{arith}
use Rattle.flags_interrupt.proofs.Search.{open_word}
use Rattle.flags_interrupt.proofs.open4.Goals as goal

pub returns : goal.returns
returns c = let s = c.args in
    rw (c.word4.ensures, c.word4-2.ensures)
    (open_word 4 s.image.now s.k (λ i. omega (arith, c.fits-image i)))
