-- The starred cases of 01 hold: the checker computes each run and compares every printed byte, or the whole state. Assumes nothing.
use lib.Dec.{T}
use Rattle.cases.specs.Computed.{all_hold}
use Rattle.cases_starred.specs.Starred.{halfway, starred}

pub starred_hold : T (all_hold starred)
unfolding all_hold halfway
starred_hold = tt
