use Rattle.bits.proofs.Tests.{and_both}
use Rattle.records.proofs.holds_app.Goals as goal

pub returns : goal.returns
returns c = rw (c.is_in.ensures, c.is_used.ensures, c.held_at.ensures) (and_both _ _)
