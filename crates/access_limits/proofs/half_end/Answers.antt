use borrow.Author.Tests.{lt-ltb, le-ltb}
use Rattle.bits.specs.Choice.{pick}
use Rattle.model.specs.Access.{half_end}
use Rattle.access_limits.proofs.half_end.Goals as goal

pub returns-then-address-lt-UPPER : goal.returns-then-address-lt-UPPER
unfolding half_end pick
returns-then-address-lt-UPPER c = rw (lt-ltb _ _ c.if-address-lt-UPPER.true)

pub returns : goal.returns
unfolding half_end pick
returns c = rw (le-ltb _ _ c.if-address-lt-UPPER.false)
