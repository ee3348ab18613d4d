use Rattle.bits.specs.Choice.{pick}
use Rattle.model.specs.Hardware.{next_state}
use Rattle.hardware_table.proofs.next_state.Goals as goal

pub returns-in-Reserved : goal.returns-in-Reserved
unfolding next_state
returns-in-Reserved c = rw c.in-Reserved.is

pub returns-then-by : goal.returns-then-by
unfolding next_state pick
returns-then-by c = rw (c.in-Deactivated.is, c.if-by.true)

pub returns-else-by : goal.returns-else-by
unfolding next_state pick
returns-else-by c = rw (c.in-Deactivated.is, c.if-by.false)

pub returns-then-by-2 : goal.returns-then-by-2
unfolding next_state pick
returns-then-by-2 c = rw (c.in-Init.is, c.if-by-2.true)

pub returns-else-by-2 : goal.returns-else-by-2
unfolding next_state pick
returns-else-by-2 c = rw (c.in-Init.is, c.if-by-2.false)

pub returns-in-Deinit : goal.returns-in-Deinit
unfolding next_state
returns-in-Deinit c = rw c.in-Deinit.is

pub returns-then-by-3 : goal.returns-then-by-3
unfolding next_state pick
returns-then-by-3 c = rw (c.in-Activated.is, c.if-by-3.true)

pub returns-else-by-3 : goal.returns-else-by-3
unfolding next_state pick
returns-else-by-3 c = rw (c.in-Activated.is, c.if-by-3.false)

pub returns-then-by-4 : goal.returns-then-by-4
unfolding next_state pick
returns-then-by-4 c = rw (c.in-TxTurnOn.is, c.if-by-4.true)

pub returns-else-by-4 : goal.returns-else-by-4
unfolding next_state pick
returns-else-by-4 c = rw (c.in-TxTurnOn.is, c.if-by-4.false)

pub returns-in-TxTurnOff : goal.returns-in-TxTurnOff
unfolding next_state
returns-in-TxTurnOff c = rw c.in-TxTurnOff.is

pub returns-then-by-5 : goal.returns-then-by-5
unfolding next_state pick
returns-then-by-5 c = rw (c.in-Initialized.is, c.if-by-5.true)

pub returns-then-by-6 : goal.returns-then-by-6
unfolding next_state pick
returns-then-by-6 c = rw (c.in-Initialized.is, c.if-by-5.false, c.if-by-6.true)

pub returns-else-by-6 : goal.returns-else-by-6
unfolding next_state pick
returns-else-by-6 c = rw (c.in-Initialized.is, c.if-by-5.false, c.if-by-6.false)
