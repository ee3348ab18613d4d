use Rattle.model.specs.Records.{held_in}
use Rattle.records.proofs.held_in.Goals as goal

pub returns-in-None : goal.returns-in-None
unfolding held_in
returns-in-None c = rw c.in-None.is

pub returns-in-Some : goal.returns-in-Some
unfolding held_in
returns-in-Some c = rw c.in-Some.is
