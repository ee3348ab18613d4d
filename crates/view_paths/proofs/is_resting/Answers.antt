use Rattle.model.specs.PathStates.{resting}
use Rattle.view_paths.proofs.is_resting.Goals as goal

pub returns-in-Reserved : goal.returns-in-Reserved
unfolding resting
returns-in-Reserved c = rw c.in-Reserved.is

pub returns-in-Deactivated : goal.returns-in-Deactivated
unfolding resting
returns-in-Deactivated c = rw c.in-Deactivated.is

pub returns-in-Init : goal.returns-in-Init
unfolding resting
returns-in-Init c = rw c.in-Init.is

pub returns-in-Deinit : goal.returns-in-Deinit
unfolding resting
returns-in-Deinit c = rw c.in-Deinit.is

pub returns-in-Activated : goal.returns-in-Activated
unfolding resting
returns-in-Activated c = rw c.in-Activated.is

pub returns-in-TxTurnOn : goal.returns-in-TxTurnOn
unfolding resting
returns-in-TxTurnOn c = rw c.in-TxTurnOn.is

pub returns-in-TxTurnOff : goal.returns-in-TxTurnOff
unfolding resting
returns-in-TxTurnOff c = rw c.in-TxTurnOff.is

pub returns-in-Initialized : goal.returns-in-Initialized
unfolding resting
returns-in-Initialized c = rw c.in-Initialized.is
