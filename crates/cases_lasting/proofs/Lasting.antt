-- The cases of flags that last hold: the checker computes each and compares every printed byte. Assumes nothing.
use lib.Dec.{T}
use Rattle.cases.specs.Computed.{all_hold}
use Rattle.cases_lasting.specs.Lasting.{bounded, conditions, samples, applies}

pub conditions_hold : T (all_hold conditions)
unfolding all_hold bounded
conditions_hold = tt

pub samples_hold : T (all_hold samples)
unfolding all_hold bounded
samples_hold = tt

pub applies_hold : T (all_hold applies)
unfolding all_hold bounded
applies_hold = tt
