use Rattle.access_reads.proofs.Cleared.{none_cleared}
use Rattle.access_reads.proofs.read_half.Goals as goal

pub returns-else-i-meets_flags : goal.returns-else-i-meets_flags
returns-else-i-meets_flags c = record { image = none_cleared _ _ _ c.meets_flags.ensures c.if-i-meets_flags.false _; bytes = c.take.ensures }
