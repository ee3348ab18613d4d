use Rattle.model.specs.Records.{is_pass}
use Rattle.records.proofs.is_pass.Goals as goal

pub returns-in-Pass : goal.returns-in-Pass
unfolding is_pass
returns-in-Pass c = rw c.in-Pass.is

pub returns-in-Reject : goal.returns-in-Reject
unfolding is_pass
returns-in-Reject c = rw c.in-Reject.is
