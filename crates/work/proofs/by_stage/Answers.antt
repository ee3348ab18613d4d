use mathlib.Core.Path.{refl}
use Rattle.model.specs.Work.{work_effect_on}
use Rattle.work.proofs.by_stage.Goals as goal

pub returns-in-None : goal.returns-in-None
unfolding work_effect_on
returns-in-None c = rw (c.in-None.is, work_effect_on) (record { image = refl; working = refl; mask = refl })

pub returns-in-Some : goal.returns-in-Some
unfolding work_effect_on
returns-in-Some c = rw (c.in-Some.is, work_effect_on) c.by_verdict.ensures
