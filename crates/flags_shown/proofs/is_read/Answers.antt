use Rattle.bits.proofs.Tests.{and_both}
use Rattle.model.specs.Flags.{is_read}
use Rattle.flags_shown.proofs.is_read.Goals as goal

pub returns : goal.returns
unfolding is_read
returns c = and_both _ _
