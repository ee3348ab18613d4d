use Rattle.model.specs.Work.{work_effect}
use Rattle.work.proofs.work.Goals as goal

pub returns : goal.returns
unfolding work_effect
returns c = rw c.stage_at.ensures at c.by_stage.ensures
