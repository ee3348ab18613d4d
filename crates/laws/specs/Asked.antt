-- Every public call with what it is given, and the refusal list of 01 as a table: for each answer, when its condition holds of the call.
use Rattle.std.specs.Prelude.{◌≡◌, Bool, true, false, not, List, [], ◌∷◌, ℕ, ◌<◌, ltb, length, get_or}
use Rattle.model.specs.Map.{Image}
use Rattle.model.specs.Records.{stage_at, is_in_progress, idle_working}
use Rattle.model.specs.State.{State, state_with}
use Rattle.model.specs.Flags.{is_condition_flag}
use Rattle.model.specs.Access.{is_bad_access, write_limit, read_limit}
use Rattle.model.specs.Sound.{is_sound}
use Rattle.model.specs.Refusals.{is_flat, is_back_to_front, wrong_length, no_such_lane, is_busy, is_unused}
use Rattle.model.specs.Outcome.{Outcome, start_outcome, call_outcome, list_outcome}
use Rattle.model.specs.declared.answer.Answer.{Answer}
use Rattle.model.specs.declared.answer.Answer.TheVariants.{Done, WrongLength, FlatMemory, Unsound, BadAccess, ShortBuffer, NothingOnLane, Busy, NoSuchTarget, Malformed, BackToFront}
use Rattle.model.specs.declared.event.Call.{Call}
use Rattle.model.specs.declared.event.Call.TheVariants.{Write, Read, Work, Hardware, Condition, Sample, Lasting, Module, Line}
use Rattle.model.specs.declared.event.Event.{Event}

-- start of an image; an event on a state, with the buffer that a read is lent; a list of events, with the answer buffer
pub data Asked : Type 0 where
  start : Image → Asked
  call : State → List ℕ → Event → Asked
  list : State → List ℕ → List Event → Asked

-- what the model says of it
unfoldable pub outcome_of : Asked → Outcome
outcome_of (start x) = start_outcome x
outcome_of (call s buffer e) = call_outcome s buffer e
outcome_of (list s answers es) = list_outcome s answers es

-- the state that it is given; start has no records yet, and all lanes are idle
unfoldable pub given_state : Asked → State
given_state (start x) = state_with x idle_working
given_state (call s buffer e) = s
given_state (list s answers es) = s

-- the buffer that it is given; start has none
unfoldable pub given_buffer : Asked → List ℕ
given_buffer (start x) = []
given_buffer (call s buffer e) = buffer
given_buffer (list s answers es) = answers

-- ---- the refusal list, number by number

-- 10: the limits of received power are back to front (asked at start alone)
unfoldable pub turned_limits : Asked → Bool
turned_limits (start x) = is_back_to_front x
turned_limits (call s buffer e) = false
turned_limits (list s answers es) = false

-- 3: state is not sound (not asked at start)
unfoldable pub is_unsound : Asked → Bool
is_unsound (start x) = false
is_unsound (call s buffer e) = not (is_sound s)
is_unsound (list s answers es) = not (is_sound s)

-- 4: access count 0, write over 8, read over 128, or past the end of its own half
unfoldable pub bad_access : Call → Bool
bad_access (Write address count) = is_bad_access write_limit address count
bad_access (Read address count) = is_bad_access read_limit address count
bad_access (Work l) = false
bad_access (Hardware l) = false
bad_access (Condition flag mask) = false
bad_access (Sample l p) = false
bad_access (Lasting flag on off) = false
bad_access Module = false
bad_access (Line on) = false

-- 8: lane above 7, or a condition's flag byte not listed
unfoldable pub bad_place : Call → Bool
bad_place (Write address count) = false
bad_place (Read address count) = false
bad_place (Work l) = no_such_lane l
bad_place (Hardware l) = no_such_lane l
bad_place (Condition flag mask) = not (is_condition_flag flag)
bad_place (Sample l p) = no_such_lane l
bad_place (Lasting flag on off) = not (is_condition_flag flag)
bad_place Module = false
bad_place (Line on) = false

-- 5: read buffer shorter than the count
unfoldable pub short_read : List ℕ → Call → Bool
short_read buffer (Write address count) = false
short_read buffer (Read address count) = ltb (length buffer) count
short_read buffer (Work l) = false
short_read buffer (Hardware l) = false
short_read buffer (Condition flag mask) = false
short_read buffer (Sample l p) = false
short_read buffer (Lasting flag on off) = false
short_read buffer Module = false
short_read buffer (Line on) = false

-- 7: hardware event on a lane that is in progress or whose path has such a lane
unfoldable pub busy_call : State → Call → Bool
busy_call s (Write address count) = false
busy_call s (Read address count) = false
busy_call s (Work l) = false
busy_call s (Hardware l) = is_busy s l
busy_call s (Condition flag mask) = false
busy_call s (Sample l p) = false
busy_call s (Lasting flag on off) = false
busy_call s Module = false
busy_call s (Line on) = false

-- 6: work step on an idle lane; hardware event on an unused lane
unfoldable pub idle_call : State → Call → Bool
idle_call s (Write address count) = false
idle_call s (Read address count) = false
idle_call s (Work l) = not (is_in_progress (stage_at s.working l))
idle_call s (Hardware l) = is_unused s l
idle_call s (Condition flag mask) = false
idle_call s (Sample l p) = false
idle_call s (Lasting flag on off) = false
idle_call s Module = false
idle_call s (Line on) = false

-- a condition of the event itself: asked of a call alone, since a list of events is answered event by event
unfoldable pub of_event : (State → List ℕ → Call → Bool) → Asked → Bool
of_event p (start x) = false
of_event p (call s buffer e) = p s buffer e.call
of_event p (list s answers es) = false

-- 5 of a list: answer buffer shorter than the list
unfoldable pub short_buffer : Asked → Bool
short_buffer (start x) = false
short_buffer (call s buffer e) = short_read buffer e.call
short_buffer (list s answers es) = ltb (length answers) (length es)

-- the condition of an answer holds; 9 belongs to a night file and not to a call
unfoldable pub holds : Asked → Answer → Bool
holds q Done = false
holds q WrongLength = wrong_length (given_state q).image
holds q FlatMemory = is_flat (given_state q).image
holds q Unsound = is_unsound q
holds q BadAccess = of_event (λ s buffer c. bad_access c) q
holds q NoSuchTarget = of_event (λ s buffer c. bad_place c) q
holds q ShortBuffer = short_buffer q
holds q Busy = of_event (λ s buffer c. busy_call s c) q
holds q NothingOnLane = of_event (λ s buffer c. idle_call s c) q
holds q Malformed = false
holds q BackToFront = turned_limits q

-- the order in which they are checked
abbrev pub order : List Answer
order = WrongLength ∷ FlatMemory ∷ BackToFront ∷ Unsound ∷ BadAccess ∷ NoSuchTarget ∷ ShortBuffer ∷ Busy ∷ NothingOnLane ∷ []

-- where in it a buffer is judged
abbrev pub buffer_turn : ℕ
buffer_turn = 6

-- of a list of answers the k-th is the first whose condition holds
pub record FirstAt (h : Answer → Bool) (answers : List Answer) (k : ℕ) : Type 0 where
  pub in_list : k < length answers
  pub holds : h (get_or answers k Done) ≡ true
  pub none_earlier : (j : ℕ) → j < k → h (get_or answers j Done) ≡ false

-- no condition holds
abbrev pub NoneHolds : (Answer → Bool) → List Answer → Type 0
NoneHolds h answers = (j : ℕ) → j < length answers → h (get_or answers j Done) ≡ false
