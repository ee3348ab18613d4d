-- The cases of paths hold: the checker computes each run and compares every printed byte. Assumes nothing.
use lib.Dec.{T}
use Rattle.cases.specs.Computed.{all_hold}
use Rattle.cases_paths.specs.Paths.{two_lanes, walked, muted, paths}

pub paths_hold : T (all_hold paths)
unfolding all_hold two_lanes walked muted
paths_hold = tt
