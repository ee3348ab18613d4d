use Rattle.model.specs.Registers.{with_status}
use Rattle.model.specs.Work.{closed_state}
use Rattle.work_closing.proofs.close.Goals as goal

pub returns : goal.returns
unfolding closed_state with_status
returns c = record { image = c.put_nibbles.ensures; working = c.freed.ensures }
