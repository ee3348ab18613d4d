use Rattle.sound.proofs.Conditions.{in_whole_by}
use native.Mathlib.Omega.{arith}
use Rattle.sound.proofs.in_whole_path.Goals as goal

pub returns : goal.returns
returns c = in_whole_by _ _ _ _ _ _ (omega arith)
    c.path_of-path.ensures
    c.nibble-state.ensures
    c.active_path.ensures
    c.agree_on_state.ensures
