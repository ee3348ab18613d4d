use Rattle.sound.proofs.Conditions.{nothing_on, some_on}
use Rattle.sound.proofs.on_fits.Goals as goal

pub returns-then-on-eq0 : goal.returns-then-on-eq0
returns-then-on-eq0 c = nothing_on _ _ _ _ c.on_at-on.ensures c.if-on-eq0.true

pub returns : goal.returns
returns c = some_on _ _ _ _ _ c.on_at-on.ensures c.are_raised.ensures
