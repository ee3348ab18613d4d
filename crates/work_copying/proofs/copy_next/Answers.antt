use Rattle.work_copying.proofs.Copies.{copied_by}
use Rattle.work_copying.proofs.copy_next.Goals as goal

pub returns : goal.returns
returns c = copied_by _ _ _ _ c.copy_lane.ensures c.next_in-next.ensures c.advanced.ensures
