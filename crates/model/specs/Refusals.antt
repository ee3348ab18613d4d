-- The refusals of every call, in their order 1, 2, 10, 3, 4, 8, 5, 7, 6 (01 "When the desk says no", Req 08).
use Rattle.std.specs.Prelude.{Bool, not, List, [], ◌∷◌, ◌++◌, eqb, ltb, length}
use Rattle.bits.specs.Choice.{pick, either}
use Rattle.bits.specs.Place.{get}
use Rattle.bits.specs.Sets.{Lane, lane_count, has}
use Rattle.model.specs.Numbers.{Count}
use Rattle.model.specs.Map.{Image, image_length, flat_bit, high_alarm_limit, low_alarm_limit, high_warning_limit, low_warning_limit, active_set}
use Rattle.model.specs.Records.{stage_at, is_in_progress, any_in_progress}
use Rattle.model.specs.State.{State}
use Rattle.model.specs.View.{settings_of, of, is_used, path_of}
use Rattle.model.specs.Flags.{is_condition_flag, power}
use Rattle.model.specs.Access.{write_limit, read_limit, is_bad_access}
use Rattle.model.specs.Sound.{is_sound}
use Rattle.model.specs.declared.answer.Answer.{Answer}
use Rattle.model.specs.declared.answer.Answer.TheVariants.{Done, WrongLength, FlatMemory, Unsound, BadAccess, ShortBuffer, NothingOnLane, Busy, NoSuchTarget, BackToFront}
use Rattle.model.specs.declared.event.Call.{Call}
use Rattle.model.specs.declared.event.Call.TheVariants.{Write, Read, Work, Hardware, Condition, Sample, Lasting, Module, Line}

pub record Refusal : Type 0 where
  pub answer : Answer
  pub when : Bool

abbrev pub refuse : Answer → Bool → Refusal
refuse a c = record { answer = a; when = c }

-- the first refusal whose condition holds; done where none does
unfoldable pub first_of : List Refusal → Answer
first_of [] = Done
first_of (r ∷ rs) = pick r.when r.answer (first_of rs)

-- ---- the conditions

unfoldable pub is_flat : Image → Bool
is_flat x = eqb (get x flat_bit) 1

-- received power: low alarm above low warning, low warning above high warning, or high warning above high alarm (Req 08)
unfoldable pub is_back_to_front : Image → Bool
is_back_to_front x =
    either (ltb (power x low_warning_limit) (power x low_alarm_limit))
    (either (ltb (power x high_warning_limit) (power x low_warning_limit)) (ltb (power x high_alarm_limit) (power x high_warning_limit)))

unfoldable pub wrong_length : Image → Bool
wrong_length x = not (eqb (length x) image_length)

unfoldable pub no_such_lane : Lane → Bool
no_such_lane l = not (ltb l lane_count)

-- the lane is in progress, or its path has such a lane
unfoldable pub is_busy : State → Lane → Bool
is_busy s l =
    either (is_in_progress (stage_at s.working l))
    (any_in_progress s.working (has (path_of (settings_of active_set s.image) l)))

unfoldable pub is_unused : State → Lane → Bool
is_unused s l = not (is_used (of (settings_of active_set s.image) l))

-- ---- the lists

-- asked of every lent image
unfoldable pub image_refusals : Image → List Refusal
image_refusals x = refuse WrongLength (wrong_length x) ∷ refuse FlatMemory (is_flat x) ∷ []

-- asked of an image at start: its limits as well
unfoldable pub start_refusals : Image → List Refusal
start_refusals x = image_refusals x ++ (refuse BackToFront (is_back_to_front x) ∷ [])

-- asked once of a call, or once of a whole list of events
unfoldable pub entry_refusals : State → List Refusal
entry_refusals s = image_refusals s.image ++ (refuse Unsound (not (is_sound s)) ∷ [])

-- asked of an event; room is the length of the buffer that a read is lent
unfoldable pub event_refusals : Count → State → Call → List Refusal
event_refusals room s (Write address count) = refuse BadAccess (is_bad_access write_limit address count) ∷ []
event_refusals room s (Read address count) =
    refuse BadAccess (is_bad_access read_limit address count) ∷ refuse ShortBuffer (ltb room count) ∷ []
event_refusals room s (Work l) = refuse NoSuchTarget (no_such_lane l) ∷ refuse NothingOnLane (not (is_in_progress (stage_at s.working l))) ∷ []
event_refusals room s (Hardware l) =
    refuse NoSuchTarget (no_such_lane l) ∷ refuse Busy (is_busy s l) ∷ refuse NothingOnLane (is_unused s l) ∷ []
event_refusals room s (Condition flag mask) = refuse NoSuchTarget (not (is_condition_flag flag)) ∷ []
event_refusals room s (Sample l p) = refuse NoSuchTarget (no_such_lane l) ∷ []
event_refusals room s (Lasting flag on off) = refuse NoSuchTarget (not (is_condition_flag flag)) ∷ []
event_refusals room s Module = []
event_refusals room s (Line on) = []

-- asked of a list of events; room is the length of the answer buffer
unfoldable pub list_refusals : Count → State → Count → List Refusal
list_refusals room s count = entry_refusals s ++ (refuse ShortBuffer (ltb room count) ∷ [])
