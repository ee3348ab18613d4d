use Rattle.model.specs.Records.{is_passing}
use Rattle.records.proofs.is_passing.Goals as goal

pub returns-in-None : goal.returns-in-None
unfolding is_passing
returns-in-None c = rw c.in-None.is

pub returns-in-Some : goal.returns-in-Some
unfolding is_passing
returns-in-Some c = rw c.in-Some.is c.is_pass.ensures
