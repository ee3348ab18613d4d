-- The worked cases of groups, triggers and verdicts hold: the checker computes each run and compares every printed byte, or the whole state. Assumes nothing.
use lib.Dec.{T}
use Rattle.cases.specs.Computed.{all_hold}
use Rattle.cases_judged.specs.Judged.{one_lane, mixed, judged}

pub judged_hold : T (all_hold judged)
unfolding all_hold one_lane mixed
judged_hold = tt
