-- The worked cases of the second staged set hold: the checker computes each run and compares every printed byte, or the whole state. Assumes nothing.
use lib.Dec.{T}
use Rattle.cases.specs.Computed.{all_hold}
use Rattle.cases_sets.specs.Sets.{staged, worked_out, two_sets}

pub two_sets_hold : T (all_hold two_sets)
unfolding all_hold staged worked_out
two_sets_hold = tt
