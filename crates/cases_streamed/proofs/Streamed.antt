-- The nights in pieces print what they should: the checker computes each, byte by byte and by the table of all that is printed, and compares every printed byte. Assumes nothing.
use lib.Dec.{T}
use Rattle.cases.specs.Computed.{all_hold}
use Rattle.cases_streamed.specs.Streamed.{three, night, counting, longer, numbered, cut, byte_by_byte, prints_from, misheaded, none_taken, back_to_front, refusing, nights, refused_nights}

pub nights_hold : T (all_hold nights)
unfolding all_hold three night counting longer numbered cut byte_by_byte prints_from misheaded none_taken
nights_hold = tt

pub refused_hold : T (all_hold refused_nights)
unfolding all_hold three longer back_to_front prints_from refusing
refused_hold = tt
