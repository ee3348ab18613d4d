use Rattle.power_moves.proofs.Moves.{moved_by}
use Rattle.power_moves.proofs.move_module.Goals as goal

pub returns : goal.returns
returns c = moved_by _ _ _ _ _ _ _
    c.shown_state-from.ensures
    c.is_low_power-low.ensures
    c.is_dark-dark.ensures
    c.next_state-to.ensures c.move_to.ensures
