use Rattle.bits.specs.Place.{get}
use Rattle.model.specs.Triggers.{is_ignored}
use Rattle.apply_triggers.proofs.is_ignored.Goals as goal

pub returns-in-DpInit : goal.returns-in-DpInit
unfolding is_ignored
returns-in-DpInit c = rw c.in-DpInit.is

pub returns-in-Immediate : goal.returns-in-Immediate
unfolding is_ignored get
returns-in-Immediate c = rw (c.in-Immediate.is, c.take_field.ensures)
