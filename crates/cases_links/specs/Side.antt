-- Two runs side by side as a test that the checker computes: moments of both runs are the same event.
use Rattle.std.specs.Prelude.{suc, Bool, true, false, not, List, [], ◌∷◌, eqb, leb, ltb, length, get_or, take, None, Some, Option}
use Rattle.bits.specs.Choice.{both, either, implies, same}
use Rattle.bits.specs.Loop.{all_below}
use Rattle.bits.specs.Number.{field}
use Rattle.bits.specs.Place.{get, digit}
use Rattle.bits.specs.Sets.{Lane, LaneSet, lane_count, has}
use Rattle.model.specs.Numbers.{Byte, Bytes, Count, Index, Address}
use Rattle.model.specs.Map.{Image, page9_f, on, module_controls, module_state_bits, page_select, run_address, active_set, staged_base, trigger_at, writable}
use Rattle.model.specs.View.{View, view_of, settings_of, same_path}
use Rattle.model.specs.Groups.{group_of}
use Rattle.model.specs.Triggers.{is_ignored}
use Rattle.model.specs.State.{State}
use Rattle.model.specs.Work.{early}
use Rattle.model.specs.Pages.{index_of}
use Rattle.model.specs.Access.{byte_written_state}
use Rattle.model.specs.Step.{step}
use Rattle.model.specs.declared.event.Call.{Call}
use Rattle.model.specs.declared.event.Call.TheVariants.{Write, Read, Work, Hardware, Condition, Sample, Lasting, Module, Line}
use Rattle.model.specs.declared.event.Event.{Event}
use Rattle.model.specs.declared.lane.Apply.{Apply}
use Rattle.laws_links.specs.Links.{inside, Moment, in_both_runs, in_first_alone, in_second_alone}

-- a moment: an event of both runs, or of one
pub data Side : Type 0 where
  shared of_first of_second : Event → Side

abbrev pub laid_out : List Side → List Moment
laid_out [] = []
laid_out (shared e ∷ ms) = in_both_runs e e ∷ laid_out ms
laid_out (of_first e ∷ ms) = in_first_alone e ∷ laid_out ms
laid_out (of_second e ∷ ms) = in_second_alone e ∷ laid_out ms

-- ---- what is supposed

unfoldable pub paths_test : LaneSet → Image → Bool
paths_test A x = all_below lane_count (λ l. all_below lane_count (λ m. implies (same_path (settings_of active_set x) l m) (same (has A m) (has A l))))

unfoldable pub groups_test : LaneSet → View → LaneSet → Bool
groups_test A v selected = all_below lane_count (λ l. all_below lane_count (λ m. implies (both (has selected l) (has (group_of v selected l) m)) (same (has A m) (has A l))))

unfoldable pub byte_test : Option Apply → LaneSet → State → Byte → Bool
byte_test None A s v = true
byte_test (Some a) A s v = either (is_ignored a.trigger s.image) (groups_test A (view_of (staged_base a.set) s.image) v)

unfoldable pub bytes_test : LaneSet → State → Address → Bytes → Bool
bytes_test A s address [] = true
bytes_test A s address (v ∷ vs) = both (byte_test (trigger_at (index_of s.image address)) A s v) (bytes_test A (byte_written_state address v s) (suc address) vs)

unfoldable pub call_test : LaneSet → State → Bytes → Call → Bool
call_test A s vs (Write address count) = bytes_test A s address (take count vs)
call_test A s vs (Read address count) = true
call_test A s vs (Work l) = true
call_test A s vs (Hardware l) = true
call_test A s vs (Condition flag mask) = true
call_test A s vs (Sample l p) = true
call_test A s vs (Lasting flag on off) = true
call_test A s vs Module = true
call_test A s vs (Line on) = true

unfoldable pub parted_test : LaneSet → State → Event → Bool
parted_test A s e = both (paths_test A s.image) (call_test A s e.bytes e.call)

-- ---- what is allowed

unfoldable pub is_inside : LaneSet → Lane → Bool
is_inside A l = both (ltb l lane_count) (has A l)

unfoldable pub only_test : LaneSet → LaneSet → Bool
only_test A m = all_below lane_count (λ l. either (has A l) (not (has m l)))

-- one event in both runs: not on a lane of A
unfoldable pub shared_test : LaneSet → Call → Bool
shared_test A (Write address count) = true
shared_test A (Read address count) = true
shared_test A (Work l) = not (is_inside A l)
shared_test A (Hardware l) = not (is_inside A l)
shared_test A (Condition flag mask) = true
shared_test A (Sample l p) = not (is_inside A l)
shared_test A (Lasting flag on off) = true
shared_test A Module = true
shared_test A (Line on) = true

unfoldable pub concerns_test : Option Apply → LaneSet → State → Index → Byte → Bool
concerns_test None A s i v =
    implies (writable i) (both (both (ltb v 256) (ltb (get_or s.image i 0) 256)) (all_below 8 (λ b. either (inside A i b) (eqb (field v b 1) (digit s.image i b)))))
concerns_test (Some a) A s i v = only_test A v

unfoldable pub own_bytes_test : LaneSet → State → Address → Bytes → Bool
own_bytes_test A s address [] = true
own_bytes_test A s address (v ∷ vs) =
    let i = index_of s.image address in
    both (both (both (not (eqb i page_select)) (not (eqb i module_controls))) (both (not (eqb i (on page9_f run_address))) (concerns_test (trigger_at i) A s i v)))
    (own_bytes_test A (byte_written_state address v s) (suc address) vs)

unfoldable pub own_test : LaneSet → State → Bytes → Call → Bool
own_test A s vs (Write address count) = both (leb count (length vs)) (own_bytes_test A s address (take count vs))
own_test A s vs (Read address count) = false
own_test A s vs (Work l) = is_inside A l
own_test A s vs (Hardware l) = is_inside A l
own_test A s vs (Condition flag mask) = only_test A mask
own_test A s vs (Sample l p) = is_inside A l
own_test A s vs (Lasting flag on off) = both (only_test A on) (only_test A off)
own_test A s vs Module = false
own_test A s vs (Line on) = false

-- ---- both, along two runs

unfoldable pub module_test : State → State → Bool
module_test s t = eqb (get s.image module_state_bits) (get t.image module_state_bits)

unfoldable pub supposed_test : LaneSet → Count → State → State → List Side → Bool
supposed_test A room s t [] = true
supposed_test A room s t (shared e ∷ ms) =
    let s' = (step early room s e).state in
    let t' = (step early room t e).state in
    both (both (both (parted_test A s e) (parted_test A t e)) (both (shared_test A e.call) (module_test s' t'))) (supposed_test A room s' t' ms)
supposed_test A room s t (of_first e ∷ ms) =
    let s' = (step early room s e).state in
    both (both (parted_test A s e) (both (own_test A s e.bytes e.call) (module_test s' t))) (supposed_test A room s' t ms)
supposed_test A room s t (of_second e ∷ ms) =
    let t' = (step early room t e).state in
    both (both (parted_test A t e) (both (own_test A t e.bytes e.call) (module_test s t'))) (supposed_test A room s t' ms)
