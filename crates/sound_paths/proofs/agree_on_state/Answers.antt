use native.Mathlib.Omega.{arith}
use mathlib.Core.Path.{sym, ◌∙◌}
use Rattle.bits.proofs.Sets.{every_of}
use Rattle.bits.specs.Sets.{lane_count, every_in}
use Rattle.model.specs.Sound.{agree_on_state}
use Rattle.view_paths.proofs.Lanes.{state_at_lem}
use Rattle.sound_paths.proofs.agree_on_state.Goals as goal

pub returns : goal.returns
unfolding agree_on_state every_in
returns c = let own = c.nibble-own.ensures ∙ sym (state_at_lem _ _ (omega arith)) in
    rw (← own) (c.lies_in.ensures ∙ every_of lane_count _ _ c.lanes_in_state.ensures)
