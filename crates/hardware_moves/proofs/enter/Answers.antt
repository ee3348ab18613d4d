use Rattle.hardware_moves.proofs.Moves.{entered_by}
use Rattle.hardware_moves.proofs.enter.Goals as goal

pub returns : goal.returns
returns c = entered_by _ _ _ _ _ _ _ _
    c.from.ensures
    c.put_nibbles.ensures
    c.clear_pending.ensures c.flag_change.ensures
