use Rattle.hardware_moves.proofs.Moves.{moved_by}
use Rattle.hardware_moves.proofs.move_path.Goals as goal

pub returns : goal.returns
returns c = moved_by _ _ _ _ _ _ _ _ _
    c.nibble.ensures
    c.from-from.ensures
    c.signals_of.ensures
    c.next_state-to.ensures c.move_to.ensures
