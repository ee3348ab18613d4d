use Rattle.model.specs.Work.{pending_after}
use Rattle.model.specs.Registers.{with_pending}
use Rattle.work_closing.proofs.set_pending.Goals as goal

pub returns-then-release : goal.returns-then-release
unfolding pending_after with_pending
returns-then-release c = rw (c.if-release.true, pending_after) c.clear_bits.ensures
