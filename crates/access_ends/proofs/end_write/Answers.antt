use mathlib.Core.Path.{refl}
use Rattle.bits.specs.Choice.{pick}
use Rattle.model.specs.Access.{ended_state}
use Rattle.access_ends.proofs.end_write.Goals as goal

pub returns-then-resets : goal.returns-then-resets
unfolding ended_state pick
returns-then-resets c = rw (← c.resets.ensures, c.if-resets.true) c.reset.ensures

pub returns : goal.returns
unfolding ended_state pick
returns c = rw (← c.resets.ensures, c.if-resets.false)
    (record { image = c.end_write.ensures; working = refl })
