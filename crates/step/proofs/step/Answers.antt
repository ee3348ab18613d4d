use mathlib.Core.Path.{refl}
use Rattle.model.specs.Refusals.{event_refusals}
use Rattle.model.specs.Step.{event_effect}
use Rattle.step_answers.proofs.Outcomes.{elsewhere, as_asked}
use Rattle.step.proofs.step.Goals as goal

pub returns-in-Write : goal.returns-in-Write
unfolding event_refusals event_effect
returns-in-Write c = elsewhere _ _ _ _ _ _ _ _ c.in-Write.is refl refl c.write.ensures

pub returns-in-Read : goal.returns-in-Read
unfolding event_effect
returns-in-Read c = as_asked _ _ _ _ _ _ _ _ c.in-Read.is _ refl c.read.ensures

pub returns-in-Work : goal.returns-in-Work
unfolding event_refusals event_effect
returns-in-Work c = elsewhere _ _ _ _ _ _ _ _ c.in-Work.is refl refl c.work.ensures

pub returns-in-Hardware : goal.returns-in-Hardware
unfolding event_refusals event_effect
returns-in-Hardware c = elsewhere _ _ _ _ _ _ _ _ c.in-Hardware.is refl refl c.hardware.ensures

pub returns-in-Condition : goal.returns-in-Condition
unfolding event_refusals event_effect
returns-in-Condition c = elsewhere _ _ _ _ _ _ _ _ c.in-Condition.is refl refl c.condition.ensures

pub returns-in-Sample : goal.returns-in-Sample
unfolding event_refusals event_effect
returns-in-Sample c = elsewhere _ _ _ _ _ _ _ _ c.in-Sample.is refl refl c.sample.ensures

pub returns-in-Lasting : goal.returns-in-Lasting
unfolding event_refusals event_effect
returns-in-Lasting c = elsewhere _ _ _ _ _ _ _ _ c.in-Lasting.is refl refl c.lasting.ensures

pub returns-in-Module : goal.returns-in-Module
unfolding event_refusals event_effect
returns-in-Module c = elsewhere _ _ _ _ _ _ _ _ c.in-Module.is refl refl c.move_module.ensures

pub returns-in-Line : goal.returns-in-Line
unfolding event_refusals event_effect
returns-in-Line c = elsewhere _ _ _ _ _ _ _ _ c.in-Line.is refl refl c.set_line.ensures
