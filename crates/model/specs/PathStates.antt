-- The states of a path and their codes (01 "Paths and flags"; 002 table 8-84).
use Rattle.std.specs.Prelude.{Bool, true, false, eqb}
use Rattle.bits.specs.Choice.{pick}
use Rattle.model.specs.Numbers.{Code}
use Rattle.model.specs.declared.path.PathState.{PathState}
use Rattle.model.specs.declared.path.PathState.TheVariants.{Reserved, Deactivated, Init, Deinit, Activated, TxTurnOn, TxTurnOff, Initialized}

abbrev pub code_of : PathState → Code
code_of Reserved = 0
code_of Deactivated = 1
code_of Init = 2
code_of Deinit = 3
code_of Activated = 4
code_of TxTurnOn = 5
code_of TxTurnOff = 6
code_of Initialized = 7

unfoldable pub state_of : Code → PathState
state_of n =
    pick (eqb n 1) Deactivated
    (pick (eqb n 2) Init
    (pick (eqb n 3) Deinit
    (pick (eqb n 4) Activated
    (pick (eqb n 5) TxTurnOn
    (pick (eqb n 6) TxTurnOff
    (pick (eqb n 7) Initialized Reserved))))))

-- a state that a path rests in: DPDeactivated, DPInitialized, DPActivated
unfoldable pub resting : PathState → Bool
resting Reserved = false
resting Deactivated = true
resting Init = false
resting Deinit = false
resting Activated = true
resting TxTurnOn = false
resting TxTurnOff = false
resting Initialized = true

-- a state in which an ApplyImmediate reaches the hardware: DPInitialized, DPActivated
unfoldable pub commissioned : PathState → Bool
commissioned Reserved = false
commissioned Deactivated = false
commissioned Init = false
commissioned Deinit = false
commissioned Activated = true
commissioned TxTurnOn = false
commissioned TxTurnOff = false
commissioned Initialized = true
