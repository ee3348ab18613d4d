use mathlib.Core.Path.{◌∙◌}
use Rattle.bits.proofs.Sets.{some_of}
use Rattle.bits.specs.Sets.{lane_count, some_in}
use Rattle.sound_passing.proofs.some_used.Goals as goal

pub returns : goal.returns
unfolding some_in
returns c = c.meets.ensures ∙ some_of lane_count _ _ c.used_lanes.ensures
