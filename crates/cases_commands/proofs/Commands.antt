-- The cases of command messages hold: the checker computes each and compares every printed byte. Assumes nothing.
use lib.Dec.{T}
use Rattle.cases.specs.Computed.{all_hold}
use Rattle.cases_commands.specs.Commands.{versioned, body_written, driven, commands, driven_commands}

pub commands_hold : T (all_hold commands)
unfolding all_hold versioned
commands_hold = tt

pub driven_hold : T (all_hold driven_commands)
unfolding all_hold versioned body_written driven
driven_hold = tt
