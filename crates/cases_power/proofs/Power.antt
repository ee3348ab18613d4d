-- The cases of the module's power hold: the checker computes each run and compares every printed byte. Assumes nothing.
use lib.Dec.{T}
use Rattle.cases.specs.Computed.{all_hold}
use Rattle.cases_power.specs.Power.{example_after, moves, risen, held, resets}

pub moves_hold : T (all_hold moves)
unfolding all_hold example_after
moves_hold = tt

pub held_hold : T (all_hold held)
unfolding all_hold risen
held_hold = tt

pub resets_hold : T (all_hold resets)
unfolding all_hold
resets_hold = tt
