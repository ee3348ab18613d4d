use Rattle.model.specs.Work.{pending_after}
use Rattle.model.specs.Registers.{with_pending}
use Rattle.work_closing.proofs.put_pending.Goals as goal

pub returns-in-DpInit : goal.returns-in-DpInit
unfolding pending_after with_pending
returns-in-DpInit c = rw (c.in-DpInit.is, pending_after) c.set_bits.ensures

pub returns-in-Immediate : goal.returns-in-Immediate
unfolding pending_after
returns-in-Immediate c = rw (c.in-Immediate.is, pending_after)
