use mathlib.Core.Path.{refl}
use Rattle.pieces_carried.proofs.Holding.{tidy_more}
use Rattle.pieces_carried.proofs.hold.Goals as goal

pub returns : goal.returns
returns c = (refl, record { same = tidy_more _ _ c.requires.0 })
