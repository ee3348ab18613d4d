use mathlib.Core.Path.{refl, sym, ◌∙◌}
use Rattle.access_writes.proofs.Putting.{stored-trigger, stored_other}
use Rattle.access_writes.proofs.write_at.Goals as goal

pub returns-in-None : goal.returns-in-None
returns-in-None c = let a = c.args in
    let none = sym c.trigger_at.ensures ∙ c.in-None.is in
    rw (stored_other _ a.v a.image.now a.w none, ← c.without_reset.ensures)
    (record { image = c.put_byte.ensures; working = refl })

pub returns-in-Some : goal.returns-in-Some
returns-in-Some c = let found = sym c.trigger_at.ensures ∙ c.in-Some.is in
    rw (stored-trigger _ _ _ _ found) c.trigger.ensures
