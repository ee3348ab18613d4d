use Rattle.model.specs.Work.{commission_mask}
use Rattle.work_closing.proofs.commission_mask.Goals as goal

pub returns-then-release : goal.returns-then-release
unfolding commission_mask
returns-then-release c = rw (c.if-release.true, commission_mask)

pub returns-in-DpInit : goal.returns-in-DpInit
unfolding commission_mask
returns-in-DpInit c = rw (c.if-release.false, c.in-DpInit.is, commission_mask)
