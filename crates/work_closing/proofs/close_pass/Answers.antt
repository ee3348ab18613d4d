use Rattle.work_closing.proofs.Closes.{closed_by}
use Rattle.work_closing.proofs.close_pass.Goals as goal

pub returns : goal.returns
returns c = let pending = c in
    closed_by _ _ _ _ pending.is_release-release.ensures pending.commission_mask-mask.ensures pending.set_pending.ensures
    c.success.ensures c.close-working.ensures
