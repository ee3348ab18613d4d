use borrow.Author.Tests.{lt-ltb, le-ltb}
use Rattle.bits.specs.Choice.{both}
use Rattle.sound_groups.proofs.is_lane_of.Goals as goal

pub returns-then-n-lt-COUNT : goal.returns-then-n-lt-COUNT
unfolding both
returns-then-n-lt-COUNT c = rw (lt-ltb _ _ c.if-n-lt-COUNT.true, both) c.is_in.ensures

pub returns-else-n-lt-COUNT : goal.returns-else-n-lt-COUNT
unfolding both
returns-else-n-lt-COUNT c = rw (le-ltb _ _ c.if-n-lt-COUNT.false, both)
