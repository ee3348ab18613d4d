use Rattle.model.specs.PathStates.{commissioned}
use Rattle.work_closing.proofs.is_commissioned.Goals as goal

pub returns-in-Reserved : goal.returns-in-Reserved
unfolding commissioned
returns-in-Reserved c = rw (c.in-Reserved.is, commissioned)

pub returns-in-Deactivated : goal.returns-in-Deactivated
unfolding commissioned
returns-in-Deactivated c = rw (c.in-Deactivated.is, commissioned)

pub returns-in-Init : goal.returns-in-Init
unfolding commissioned
returns-in-Init c = rw (c.in-Init.is, commissioned)

pub returns-in-Deinit : goal.returns-in-Deinit
unfolding commissioned
returns-in-Deinit c = rw (c.in-Deinit.is, commissioned)

pub returns-in-Activated : goal.returns-in-Activated
unfolding commissioned
returns-in-Activated c = rw (c.in-Activated.is, commissioned)

pub returns-in-TxTurnOn : goal.returns-in-TxTurnOn
unfolding commissioned
returns-in-TxTurnOn c = rw (c.in-TxTurnOn.is, commissioned)

pub returns-in-TxTurnOff : goal.returns-in-TxTurnOff
unfolding commissioned
returns-in-TxTurnOff c = rw (c.in-TxTurnOff.is, commissioned)

pub returns-in-Initialized : goal.returns-in-Initialized
unfolding commissioned
returns-in-Initialized c = rw (c.in-Initialized.is, commissioned)
