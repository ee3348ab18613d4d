-- One link's word about another (02 Req 13). Two runs from one start differ in what is done to the lanes of a set A alone, and every group and every active
-- path lies inside A or outside: then every bit that belongs to a lane outside A is the same in both, and so is its record, and so are the answers.
use Rattle.std.specs.Prelude.{ℕ, suc, ◌+◌, ◌-◌, ◌*◌, ◌/◌, ◌%◌, ◌≤◌, ◌<◌, ◌≡◌, Bool, true, false, List, [], ◌∷◌, ◌≢◌, eqb, leb, ltb, length, take, None, Some, Option}
use Rattle.bits.specs.Choice.{both, either}
use Rattle.bits.specs.Loop.{any_below, any_of}
use Rattle.bits.specs.Number.{field}
use Rattle.bits.specs.Place.{get, digit}
use Rattle.bits.specs.Sets.{Lane, LaneSet, lane_count, has}
use Rattle.model.specs.Numbers.{Byte, Bytes, Count, Index, Address, Bit}
use Rattle.model.specs.Map.{Image, page9_f, page10, page11, on, module_controls, module_state, module_state_bits, page_select, run_address, active_set, staged_base, trigger_at, writable}
use Rattle.model.specs.Records.{record_at}
use Rattle.model.specs.View.{View, view_of, settings_of, same_path}
use Rattle.model.specs.Groups.{group_of}
use Rattle.model.specs.Triggers.{is_ignored}
use Rattle.model.specs.State.{State}
use Rattle.model.specs.Work.{early}
use Rattle.model.specs.Pages.{index_of}
use Rattle.model.specs.Access.{byte_written_state}
use Rattle.model.specs.Start.{started_state}
use Rattle.model.specs.Step.{read_address, Stepped, step}
use Rattle.model.specs.declared.event.Call.{Call}
use Rattle.model.specs.declared.event.Call.TheVariants.{Write, Read, Work, Hardware, Condition, Sample, Lasting, Module, Line}
use Rattle.model.specs.declared.event.Event.{Event}
use Rattle.model.specs.declared.lane.Apply.{Apply}

-- ---- which bits belong to which lane

-- registers of as many bits for each lane, one behind the other from a byte to a byte: a bit, a nibble, a byte or a byte pair for lane 0, then for lane 1, and so on
pub record LaneRegisters : Type 0 where
  pub from : Index
  pub to : Index
  pub width : Count

abbrev pub of10 : Address → Address → Count → LaneRegisters
of10 a b width = record { from = on page10 a; to = on page10 b; width = width }

abbrev pub of11 : Address → Address → Count → LaneRegisters
of11 a b width = record { from = on page11 a; to = on page11 b; width = width }

-- 10h: controls, triggers and settings of both staged sets, masks; 11h: states, flags, received power, ConfigStatus, active settings, DPInitPending.
-- All other bits belong to no lane
abbrev pub lane_registers : List LaneRegisters
lane_registers =
    of10 128 132 1 ∷ of10 137 139 1 ∷ of10 143 144 1 ∷ of10 145 152 8 ∷ of10 153 153 1 ∷ of10 156 159 4 ∷ of10 160 161 1 ∷ of10 162 173 4
    ∷ of10 178 179 1 ∷ of10 180 187 8 ∷ of10 188 188 1 ∷ of10 191 194 4 ∷ of10 195 196 1 ∷ of10 197 208 4 ∷ of10 213 232 1
    ∷ of11 128 131 4 ∷ of11 132 153 1 ∷ of11 186 201 16 ∷ of11 202 205 4 ∷ of11 206 213 8 ∷ of11 214 214 1 ∷ of11 217 220 4 ∷ of11 221 222 1
    ∷ of11 223 234 4 ∷ of11 235 235 1 ∷ []

-- byte i is one of theirs
unfoldable pub lies : LaneRegisters → Index → Bool
lies r i = both (leb r.from i) (leb i r.to)

-- the lane whose bit it is there
unfoldable pub lane_of : LaneRegisters → Index → Bit → Lane
lane_of r i b = ((i - r.from) * 8 + b) / r.width % lane_count

-- bit b of image byte i belongs to lane l
unfoldable pub belongs : Lane → Index → Bit → Bool
belongs l i b = any_of lane_registers (λ r. both (lies r i) (both (ltb b 8) (eqb (lane_of r i b) l)))

-- it belongs to a lane of A
unfoldable pub inside : LaneSet → Index → Bit → Bool
inside A i b = any_below lane_count (λ l. both (has A l) (belongs l i b))

-- ---- what the two runs may do

-- a lane that is not one of A
abbrev pub Outside : LaneSet → Lane → Type 0
Outside A l = (l < lane_count) × (has A l ≡ false)

-- a lane of A
abbrev pub Inside : LaneSet → Lane → Type 0
Inside A l = (l < lane_count) × (has A l ≡ true)

-- masks that agree outside A, and one that has bits of A only
abbrev pub SameMask : LaneSet → LaneSet → LaneSet → Type 0
SameMask A m m' = (l : Lane) → Outside A l → has m l ≡ has m' l

abbrev pub OnlyOf : LaneSet → LaneSet → Type 0
OnlyOf A m = (l : Lane) → Outside A l → has m l ≡ false

-- nothing is asked
abbrev pub NothingAsked : Type 0
NothingAsked = Unit {0}

-- bytes written from an address on in both runs: each pair agrees in every bit that is not inside A at the place where the byte goes, by the page selected then
unfoldable pub SameBytes : LaneSet → State → Address → Bytes → Bytes → Type 0
SameBytes A s address [] [] = NothingAsked
SameBytes A s address [] (v' ∷ vs') = ⊥
SameBytes A s address (v ∷ vs) [] = ⊥
SameBytes A s address (v ∷ vs) (v' ∷ vs') =
    ((b : Bit) → inside A (index_of s.image address) b ≡ false → field v b 1 ≡ field v' b 1) × SameBytes A (byte_written_state address v s) (suc address) vs vs'

-- a byte that concerns A alone: a trigger selects lanes of A only, and a writable byte changes bits inside A only
abbrev pub ConcernsAt : Option Apply → LaneSet → State → Index → Byte → Type 0
ConcernsAt None A s i v = writable i ≡ true → (b : Bit) → inside A i b ≡ false → field v b 1 ≡ digit s.image i b
ConcernsAt (Some a) A s i v = OnlyOf A v

-- bytes written from an address on that concern A alone: none goes to 127, to lower 26 or to 9Fh:129
unfoldable pub Concerns : LaneSet → State → Address → Bytes → Type 0
Concerns A s address [] = NothingAsked
Concerns A s address (v ∷ vs) =
    let i = index_of s.image address in
    (i ≢ page_select) × (i ≢ module_controls) × (i ≢ on page9_f run_address) × ConcernsAt (trigger_at i) A s i v
    × Concerns A (byte_written_state address v s) (suc address) vs

-- a moment of both runs: the first takes one event and the second another
abbrev pub SameCalls : LaneSet → State → Bytes → Bytes → Call → Call → Type 0
SameCalls A s vs vs' (Write address count) c = (c ≡ Write address count) × SameBytes A s address (take count vs) (take count vs')
SameCalls A s vs vs' (Read address count) c = c ≡ Read address count
SameCalls A s vs vs' (Work l) c = (c ≡ Work l) × (Inside A l → ⊥)
SameCalls A s vs vs' (Hardware l) c = (c ≡ Hardware l) × (Inside A l → ⊥)
SameCalls A s vs vs' (Condition flag mask) c = (mask' : LaneSet) × (c ≡ Condition flag mask') × SameMask A mask mask'
SameCalls A s vs vs' (Sample l p) c = (c ≡ Sample l p) × (Inside A l → ⊥)
SameCalls A s vs vs' (Lasting flag on off) c =
    (on' : LaneSet) × (off' : LaneSet) × (c ≡ Lasting flag on' off') × SameMask A on on' × SameMask A off off'
SameCalls A s vs vs' Module c = c ≡ Module
SameCalls A s vs vs' (Line on) c = c ≡ Line on

abbrev pub Allowed : LaneSet → State → Event → Event → Type 0
Allowed A s e e' = SameCalls A s e.bytes e'.bytes e.call e'.call

-- a moment of one run alone; a write has the bytes that it counts, as every event does that comes from a file or a call
abbrev pub OwnCall : LaneSet → State → Bytes → Call → Type 0
OwnCall A s vs (Write address count) = (count ≤ length vs) × Concerns A s address (take count vs)
OwnCall A s vs (Read address count) = ⊥
OwnCall A s vs (Work l) = Inside A l
OwnCall A s vs (Hardware l) = Inside A l
OwnCall A s vs (Condition flag mask) = OnlyOf A mask
OwnCall A s vs (Sample l p) = Inside A l
OwnCall A s vs (Lasting flag on off) = OnlyOf A on × OnlyOf A off
OwnCall A s vs Module = ⊥
OwnCall A s vs (Line on) = ⊥

abbrev pub AllowedAlone : LaneSet → State → Event → Type 0
AllowedAlone A s e = OwnCall A s e.bytes e.call

-- ---- what is supposed

-- no lane of A is on an active path with a lane outside A
abbrev pub PathsParted : LaneSet → Image → Type 0
PathsParted A x = (l m : Lane) → l < lane_count → m < lane_count → same_path (settings_of active_set x) l m ≡ true → has A m ≡ has A l

-- no group that a trigger forms, marked or ignored, has a lane of A and a lane outside A
abbrev pub GroupsParted : LaneSet → View → LaneSet → Type 0
GroupsParted A v selected =
    (l m : Lane) → l < lane_count → m < lane_count → has selected l ≡ true → has (group_of v selected l) m ≡ true → has A m ≡ has A l

-- .. at the byte of a trigger, in the state in which it is handled
abbrev pub ByteParted : Option Apply → LaneSet → State → Byte → Type 0
ByteParted None A s v = NothingAsked
ByteParted (Some a) A s v = is_ignored a.trigger s.image ≡ false → GroupsParted A (view_of (staged_base a.set) s.image) v

unfoldable pub BytesParted : LaneSet → State → Address → Bytes → Type 0
BytesParted A s address [] = NothingAsked
BytesParted A s address (v ∷ vs) =
    ByteParted (trigger_at (index_of s.image address)) A s v × BytesParted A (byte_written_state address v s) (suc address) vs

abbrev pub CallParted : LaneSet → State → Bytes → Call → Type 0
CallParted A s vs (Write address count) = BytesParted A s address (take count vs)
CallParted A s vs (Read address count) = NothingAsked
CallParted A s vs (Work l) = NothingAsked
CallParted A s vs (Hardware l) = NothingAsked
CallParted A s vs (Condition flag mask) = NothingAsked
CallParted A s vs (Sample l p) = NothingAsked
CallParted A s vs (Lasting flag on off) = NothingAsked
CallParted A s vs Module = NothingAsked
CallParted A s vs (Line on) = NothingAsked

-- of a state and an event from it
pub record Parted (A : LaneSet) (s : State) (e : Event) : Type 0 where
  pub paths : PathsParted A s.image
  pub groups : CallParted A s e.bytes e.call

-- both runs have the same module state
abbrev pub SameModule : State → State → Type 0
SameModule s t = get s.image module_state_bits ≡ get t.image module_state_bits

-- the states that two such runs reach, moment by moment; each read is lent any room, the same in both
pub data Together (A : LaneSet) : State → State → Type 0 where
  begun : (x : Image) → Together A (started_state x) (started_state x)
  in_both : {s t : State} → Together A s t → (room : ℕ) (e e' : Event) → Parted A s e → Parted A t e' → Allowed A s e e'
      → SameModule (step early room s e).state (step early room t e').state → Together A (step early room s e).state (step early room t e').state
  in_first : {s t : State} → Together A s t → (room : ℕ) (e : Event) → Parted A s e → AllowedAlone A s e
      → SameModule (step early room s e).state t → Together A (step early room s e).state t
  in_second : {s t : State} → Together A s t → (room : ℕ) (e : Event) → Parted A t e → AllowedAlone A t e
      → SameModule s (step early room t e).state → Together A s (step early room t e).state

-- ---- what follows

-- every bit that belongs to a lane outside A is the same, and so is that lane's record
pub record SameOutside (A : LaneSet) (s t : State) : Type 0 where
  pub bits : (l : Lane) (i : Index) (b : Bit) → Outside A l → belongs l i b ≡ true → digit s.image i b ≡ digit t.image i b
  pub records : (l : Lane) → Outside A l → record_at s.working l ≡ record_at t.working l

-- at a moment of both runs: the answers, the lanes to be commissioned, and of the bytes read every bit that belongs to a lane outside A
pub record SameWord (A : LaneSet) (s : State) (e : Event) (o p : Stepped) : Type 0 where
  pub answer : o.answer ≡ p.answer
  pub mask : o.mask ≡ p.mask
  pub size : length o.bytes ≡ length p.bytes
  pub bytes : (l : Lane) (k : ℕ) (b : Bit) → Outside A l → belongs l (index_of s.image (read_address e.call) + k) b ≡ true
      → digit o.bytes k b ≡ digit p.bytes k b

-- ---- two lists of events, laid side by side

pub data Moment : Type 0 where
  in_both_runs : Event → Event → Moment
  in_first_alone in_second_alone : Event → Moment

-- the events of the first run, and of the second
abbrev pub first_events : List Moment → List Event
first_events [] = []
first_events (in_both_runs e e' ∷ ms) = e ∷ first_events ms
first_events (in_first_alone e ∷ ms) = e ∷ first_events ms
first_events (in_second_alone e ∷ ms) = first_events ms

abbrev pub second_events : List Moment → List Event
second_events [] = []
second_events (in_both_runs e e' ∷ ms) = e' ∷ second_events ms
second_events (in_first_alone e ∷ ms) = second_events ms
second_events (in_second_alone e ∷ ms) = e ∷ second_events ms

-- every moment is allowed, and what is supposed holds at each, from two states on
unfoldable pub Supposed : LaneSet → ℕ → State → State → List Moment → Type 0
Supposed A room s t [] = NothingAsked
Supposed A room s t (in_both_runs e e' ∷ ms) =
    Parted A s e × Parted A t e' × Allowed A s e e' × SameModule (step early room s e).state (step early room t e').state
    × Supposed A room (step early room s e).state (step early room t e').state ms
Supposed A room s t (in_first_alone e ∷ ms) =
    Parted A s e × AllowedAlone A s e × SameModule (step early room s e).state t × Supposed A room (step early room s e).state t ms
Supposed A room s t (in_second_alone e ∷ ms) =
    Parted A t e × AllowedAlone A t e × SameModule s (step early room t e).state × Supposed A room s (step early room t e).state ms

-- ---- inside the proofs

-- byte i is one that has bits of lanes
unfoldable pub is_shared : Index → Bool
is_shared i = any_of lane_registers (λ r. lies r i)

-- what may differ: bits inside A, lower 3.0, and, where a number of the list is no byte, what it has past its eighth bit at such a place. All else is the
-- same, which is more than the theorem says; a later request may widen it
unfoldable pub unsaid : LaneSet → Index → Bit → Bool
unsaid A i b = either (inside A i b) (either (both (eqb i module_state) (eqb b 0)) (both (is_shared i) (leb 8 b)))
