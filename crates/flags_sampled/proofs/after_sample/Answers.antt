use Rattle.flags_sampled.specs.Beyond.{beyond_on}
use Rattle.flags_sampled.proofs.after_sample.Goals as goal

pub returns : goal.returns
unfolding beyond_on
returns c = rw (← c.with_flag-first.ensures, ← c.with_flag-second.ensures, ← c.with_flag-third.ensures) c.with_flag.ensures
