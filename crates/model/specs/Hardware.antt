-- A hardware event on a path (01 "Paths and flags"; 002 table 6-18).
use Rattle.std.specs.Prelude.{Bool, false, not, eqb}
use Rattle.bits.specs.Choice.{pick, only_if, either}
use Rattle.bits.specs.Place.{get}
use Rattle.bits.specs.Sets.{Lane, LaneSet, has, some_in}
use Rattle.model.specs.Map.{Image, deinit_at, output_disable_at, squelch_force_at, state_at, state_changed_flag, active_set, pending_at}
use Rattle.model.specs.PathStates.{code_of, state_of, resting}
use Rattle.model.specs.Registers.{with_pending, with_path_state, with_flags}
use Rattle.model.specs.View.{settings_of, path_of}
use Rattle.bits.specs.declared.Place.{Place}
use Rattle.model.specs.declared.path.PathState.{PathState}
use Rattle.model.specs.declared.path.Signals.{Signals}
use Rattle.model.specs.declared.path.PathState.TheVariants.{Reserved, Deactivated, Init, Deinit, Activated, TxTurnOn, TxTurnOff, Initialized}

-- a lane of the set has its bit 1 in a register of one bit a lane
unfoldable pub some_bit : Image → (Lane → Place) → LaneSet → Bool
some_bit x at g = some_in g (λ m. eqb (get x (at m)) 1)

-- S: the module holds every path down, or a DPDeinit bit of the path's lanes is 1
unfoldable pub to_deinit : Bool → Image → LaneSet → Bool
to_deinit down x g = either down (some_bit x deinit_at g)

-- R: S, or a DPInitPending bit of the path's lanes is 1
unfoldable pub to_reinit : Bool → Image → LaneSet → Bool
to_reinit down x g = either (to_deinit down x g) (some_bit x pending_at g)

-- D: R, or an OutputDisableTx or OutputSquelchForceTx bit of the path's lanes is 1 (Req 06; 002 equation 6-12)
unfoldable pub to_deactivate : Bool → Image → LaneSet → Bool
to_deactivate down x g = either (to_reinit down x g) (either (some_bit x output_disable_at g) (some_bit x squelch_force_at g))

-- the signals of a path
unfoldable pub signals_of : Bool → Image → LaneSet → Signals
signals_of down x g = record { deinit = to_deinit down x g; reinit = to_reinit down x g; deactivate = to_deactivate down x g }

-- the path table: the state that follows, by the path's signals (01, amended by Req 06 where it asks for D)
unfoldable pub next_state : PathState → Signals → PathState
next_state Reserved by = Reserved
next_state Deactivated by = pick by.deinit Deactivated Init
next_state Init by = pick by.deinit Deinit Initialized
next_state Initialized by = pick by.reinit Deinit (pick by.deactivate Initialized TxTurnOn)
next_state TxTurnOn by = pick by.deactivate TxTurnOff Activated
next_state Activated by = pick by.deactivate TxTurnOff Activated
next_state TxTurnOff by = Initialized
next_state Deinit by = Deactivated

unfoldable pub is_state : PathState → PathState → Bool
is_state a b = eqb (code_of a) (code_of b)

-- DPInitialized reached from DPInit: what was pending is done
unfoldable pub is_initialized : PathState → PathState → Bool
is_initialized from to = pick (is_state from Init) (is_state to Initialized) false

-- the path g enters a state: a resting state sets the lanes' DPStateChanged flags
unfoldable pub entered_image : LaneSet → PathState → PathState → Image → Image
entered_image g from to x =
    only_if (resting to) (with_flags state_changed_flag g)
    (only_if (is_initialized from to) (with_pending (has g) 0) (with_path_state g to x))

-- a path that stays enters nothing
unfoldable pub moved_image : LaneSet → PathState → PathState → Image → Image
moved_image g from to x = only_if (not (is_state from to)) (entered_image g from to) x

unfoldable pub moved_path_image : Bool → Image → LaneSet → PathState → Image
moved_path_image down x g from = moved_image g from (next_state from (signals_of down x g)) x

-- a hardware event on the path of a used lane
unfoldable pub hardware_image : Bool → Image → Lane → Image
hardware_image down x l = moved_path_image down x (path_of (settings_of active_set x) l) (state_of (get x (state_at l)))
