use Rattle.model.specs.Records.{with_verdict}
use Rattle.records.proofs.with_verdict.Goals as goal

pub returns-in-None : goal.returns-in-None
unfolding with_verdict
returns-in-None c = rw (c.in-None.is, with_verdict)

pub returns-in-Some : goal.returns-in-Some
unfolding with_verdict
returns-in-Some c = rw (c.in-Some.is, with_verdict)
