use Rattle.step_host.proofs.Ends.{plain_by}
use Rattle.step_host.proofs.write_plain.Goals as goal

pub returns : goal.returns
returns c = plain_by _ _ _ c.write_plain.ensures c.end_plain.ensures c.settle.ensures
