-- The cases of the night file's editions hold: the checker computes each and compares every printed byte. Assumes nothing.
use lib.Dec.{T}
use Rattle.cases.specs.Computed.{all_hold}
use Rattle.cases_editions.specs.Editions.{example_of, both_print, sensed, editions, conditions, powered, powers}

pub editions_hold : T (all_hold editions)
unfolding all_hold example_of both_print
editions_hold = tt

pub conditions_hold : T (all_hold conditions)
unfolding all_hold both_print sensed
conditions_hold = tt

pub powers_hold : T (all_hold powers)
unfolding all_hold both_print powered
powers_hold = tt
