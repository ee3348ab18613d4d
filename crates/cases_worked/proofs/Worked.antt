-- The other worked cases hold: the checker computes each run and compares every printed byte, or the whole state. Assumes nothing.
use lib.Dec.{T}
use Rattle.cases.specs.Computed.{all_hold}
use Rattle.cases_worked.specs.Worked.{staged_anew, applied_above, worked}

pub worked_hold : T (all_hold worked)
unfolding all_hold staged_anew applied_above
worked_hold = tt
