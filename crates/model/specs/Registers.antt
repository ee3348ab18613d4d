-- Writing registers of several lanes at once, each lane's field among its neighbours.
use Rattle.std.specs.Prelude.{Bool}
use Rattle.bits.specs.Loop.{each}
use Rattle.bits.specs.Place.{put}
use Rattle.bits.specs.Sets.{Lane, LaneSet, lane_count, has}
use Rattle.model.specs.Numbers.{Byte, Address, Code}
use Rattle.model.specs.Map.{Image, state_at, flag_at, status_at, pending_at}
use Rattle.model.specs.PathStates.{code_of}
use Rattle.model.specs.declared.path.PathState.{PathState}

-- ConfigStatus of the lanes that pass the test
unfoldable pub with_status : (Lane → Bool) → Code → Image → Image
with_status c code x = each c (λ l y. put y (status_at l) code) lane_count x

-- DPInitPending of the lanes that pass the test
unfoldable pub with_pending : (Lane → Bool) → Byte → Image → Image
with_pending c v x = each c (λ l y. put y (pending_at l) v) lane_count x

-- DPState of the lanes of a set
unfoldable pub with_path_state : LaneSet → PathState → Image → Image
with_path_state g to x = each (has g) (λ l y. put y (state_at l) (code_of to)) lane_count x

-- the bits of a set's lanes in a flag byte of 11h, set
unfoldable pub with_flags : Address → LaneSet → Image → Image
with_flags address g x = each (has g) (λ l y. put y (flag_at address l) 1) lane_count x
