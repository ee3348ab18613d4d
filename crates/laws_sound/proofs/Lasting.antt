-- (f): start has it, and every event keeps it. Assumes nothing.
use Rattle.std.proofs.Common.{None, Some, Option}
use mathlib.Core.Path.{◌≡◌, refl, sym, ◌∙◌}
use mathlib.Core.Bool.{Bool, true, false, not}
use mathlib.Core.List.{List, [], ◌∷◌}
use mathlib.Core.Logic.{◌⊎◌, inl, inr}
use Prim.Native.Nat.{ℕ, ◌+◌, ◌-◌, ◌*◌, ◌<◌}
use native.Mathlib.Decide.{ℕ_discrete}
use native.Mathlib.Omega.{arith}
use lib.Dec.{eqb, ltb}
use lib.ListN.{length, take}
use borrow.Author.Tests.{eqb-true, ltb-true, le-leb, not-false}
use Rattle.bits.specs.Choice.{pick, only_if, both, either}
use Rattle.bits.specs.Place.{get}
use Rattle.bits.specs.Sets.{has}
use Rattle.bits.specs.Word.{put_word}
use Rattle.bits.proofs.Tests.{split, clash, both_l, both_i, either_cases, either_i_l, pick_true, pick-false, pick-has}
use Rattle.bits.proofs.Sets.{has-zero}
use Rattle.bits.proofs.Number.{stays}
use Rattle.bits.proofs.Words.{length-put-word, word-byte_other}
use Rattle.model.specs.Map.{Image, image_length, range, in_ranges, on, page11, flag_at, lasting_count, lasting_flag, lasting_index, high_alarm_flag, low_alarm_flag, high_warning_flag, low_warning_flag, received_power}
use Rattle.model.specs.Answers.{is_done}
use Rattle.model.specs.Records.{idle_with, stage_at, on_at, with_line, with_flag_on}
use Rattle.model.specs.State.{State, state_with, with_image}
use Rattle.model.specs.Effect.{Effect}
use Rattle.model.specs.Registers.{with_status}
use Rattle.model.specs.Work.{early, copy_next, copy_group, pending_after, closed_state, closing_effect, copied_state, work_effect_by, work_effect_on, work_effect}
use Rattle.model.specs.Flags.{is_condition_flag, condition_image, condition_on, lasting_state, above_alarm, below_alarm, above_warning, raised_image, sampled_image, sampled_on, sampled_state, is_read, settled_image}
use Rattle.model.specs.Power.{holds_down, module_image}
use Rattle.model.specs.Hardware.{hardware_image}
use Rattle.model.specs.Pages.{index_of}
use Rattle.model.specs.Commands.{command_image}
use Rattle.model.specs.Access.{bytes_written_state, runs_command, resets, ended_state, cleared_image}
use Rattle.model.specs.Start.{started_state, reset_state}
use Rattle.model.specs.Refusals.{first_of, event_refusals}
use Rattle.model.specs.Step.{read_effect, event_effect, done_step, refused_step, answered_step, step}
use Rattle.model.specs.declared.event.Call.{Call}
use Rattle.model.specs.declared.event.Call.TheVariants.{Write, Read, Work, Hardware, Condition, Sample, Lasting, Module, Line}
use Rattle.model.specs.declared.event.Event.{Event}
use Rattle.model.specs.declared.lane.Trigger.{Trigger}
use Rattle.model.specs.declared.lane.Trigger.TheVariants.{DpInit, Immediate}
use Rattle.model.specs.declared.lane.Verdict.{Verdict}
use Rattle.model.specs.declared.lane.Verdict.TheVariants.{Pass, Reject}
use Rattle.model.specs.declared.lane.Progress.{Progress}
use Rattle.model.proofs.Lasting.{condition-among, flag_now, flag_other}
use Rattle.laws_frames.specs.Frames.{SameWithin, on_after}
use Rattle.laws_frames.proofs.Ranges.{apart_from, all_apart, ranges_apart}
use Rattle.laws_frames.proofs.Writes.{written_ranges, bytes_off}
use Rattle.laws_frames.proofs.Outside.{get-same, get-within, below_range, above_range}
use Rattle.laws_frames.proofs.Registers.{lane-from, lane-to}
use Rattle.laws_frames.proofs.Changes.{status_outside, pending_outside, copy_outside, settled_outside, cleared_unread, cleared_length, module_outside, hardware_off}
use Rattle.laws_frames.proofs.Back.{flag_in, flag_stays, raised_stays, raised_in, raised_length}
use Rattle.laws_frames.proofs.Commands.{command_off}
use Rattle.laws_frames.proofs.Stages.{idle-on, on_in}
use Rattle.laws_frames.proofs.Lasting.{bytes_on, event-on, lasting_at, flag-byte, shown_unread, shown_on}
use Rattle.laws_sound.specs.Sound.{OnFits, AllOnFit}
use Rattle.laws_sound.proofs.Steps.{not-refused, a_lane}

-- ---- flags that can last

-- they lie in 11h:135-152
abbrev lasting_from : ℕ
lasting_from = on page11 135

abbrev lasting_end : ℕ
lasting_end = on page11 153

-- a state has another's bytes there
abbrev SameLasting : State → State → Type 0
SameLasting s t = SameWithin lasting_from lasting_end s.image t.image

flag_same : (s t : State) → SameLasting s t → (k l : ℕ) → k < lasting_count → l < 8
    → get t.image (flag_at (lasting_flag k) l) ≡ get s.image (flag_at (lasting_flag k) l)
flag_same s t e k l h b =
    get-within s.image t.image (flag_at (lasting_flag k) l)
    (omega (arith, lane-from (on page11 (lasting_flag k)) 1 l b refl)) (omega (arith, lane-to (on page11 (lasting_flag k)) 1 l b refl)) e

-- ---- a lane's on bits, one of them replaced, and all of them while their flags stay

stays_fit : (x y : Image) (l bits : ℕ) → OnFits x l bits
    → ((k : ℕ) → k < lasting_count → has bits k ≡ true → get x (flag_at (lasting_flag k) l) ≡ 1 → get y (flag_at (lasting_flag k) l) ≡ 1) → OnFits y l bits
stays_fit x y l bits O f = record { few = O.few; shows = λ k h t. f k h t (O.shows k h t) }

with_fits : (x : Image) (l bits k : ℕ) (test : Bool) → k < lasting_count → OnFits x l bits → (test ≡ true → get x (flag_at (lasting_flag k) l) ≡ 1)
    → OnFits x l (with_flag_on k test bits)
unfolding with_flag_on
with_fits x l bits k test h O f = record {
  few = stays bits k 1 _ lasting_count (omega arith) O.few;
  shows = λ j b t. elim (ℕ_discrete j k) [
    | yes q ↦ rw q (f (sym (flag_now k test bits) ∙ rw q at t))
    | no q ↦ O.shows j b (sym (flag_other k test bits j q) ∙ t)
  ];
}

-- ---- events that change neither what is on nor its flags

bytes_same : (address : ℕ) (vs : List ℕ) (s : State) → SameLasting s (bytes_written_state address vs s)
unfolding all_apart apart_from in_ranges both either
bytes_same address vs s i a b =
    bytes_off i (ranges_apart (range lasting_from (lasting_end - 1) ∷ []) written_ranges i refl (either_i_l _ _ (both_i (le-leb lasting_from i a) (le-leb i (lasting_end - 1) (omega arith))))) address vs s

only_same : (t : Bool) (s : State) → SameLasting s (with_image s (only_if t command_image s.image))
unfolding only_if
only_same true s = λ i a b. (command_off s.image).byte i (omega arith) (omega arith) (inl (omega arith))
only_same false s = λ i a b. refl

pending-same : (r : Bool) (t : Trigger) (g : ℕ) (x : Image) → SameWithin lasting_from lasting_end x (pending_after r t g x)
unfolding pending_after
pending-same true t g x = below_range lasting_from lasting_end (omega arith) (pending_outside (has g) 0 x)
pending-same false DpInit g x = below_range lasting_from lasting_end (omega arith) (pending_outside (has g) 1 x)
pending-same false Immediate g x = λ i a b. refl

closed_same : (g code : ℕ) (x : Image) → SameWithin lasting_from lasting_end x (with_status (has g) code x)
closed_same g code x = below_range lasting_from lasting_end (omega arith) (status_outside (has g) code x)

by_same : (v : Verdict) (s : State) (g : ℕ) (t : Trigger) → SameLasting s (work_effect_by v early s g t).state
unfolding work_effect_by closed_state closing_effect copied_state copy_next copy_group
by_same (Reject code) s g t = closed_same g code s.image
by_same (Pass n) s g t = pick-has (λ (c : Effect). SameLasting s c.state) (ltb n 8)
    (λ e. below_range lasting_from lasting_end (omega arith) (copy_outside s.working n s.image (ltb-true n 8 e)))
    (λ e i a b. closed_same g _ _ i a b ∙ pending-same _ t g s.image i a b)

on_same : (t : Option Progress) (s : State) → SameLasting s (work_effect_on t early s).state
unfolding work_effect_on
on_same None s = λ i a b. refl
on_same (Some p) s = by_same p.verdict s p.group p.trigger

module _ (s : State) (O : AllOnFit s) where
  -- (f) of what such an event leaves
  same_fit : (t : State) → ((l : ℕ) → l < 8 → on_at t.working l ≡ on_at s.working l) → SameLasting s t → AllOnFit t
  same_fit t e f l b = rw (e l b) (stays_fit s.image t.image l _ (O l b) (λ k h u q. flag_same s t f k l h b ∙ q))

  -- ---- a read: what is on shows again
  read_fit : (i n : ℕ) → length s.image ≡ image_length → AllOnFit (read_effect s i n).state
  unfolding read_effect
  read_fit i n size l b = stays_fit s.image _ l _ (O l b) (λ k h u q. split (is_read i n (lasting_at k))
      (λ r. shown_on s.working i n (cleared_image s.image i n) k h r l b (cleared_length s.image i n ∙ size) u)
      (λ r. get-same s.image _ (flag_at (lasting_flag k) l) (rw (flag-byte k l b)
      (shown_unread s.working i n (cleared_image s.image i n) k h r ∙ cleared_unread s.image i n (lasting_at k) r)) ∙ q))

  -- ---- conditions
  module _ (flag : ℕ) (listed : is_condition_flag flag ≡ true) (size : length s.image ≡ image_length) where
    there : on page11 flag < length s.image
    there = let among = condition-among flag listed in omega arith

    -- flags are set, and none falls
    raised_fit : (mask l : ℕ) → l < 8 → OnFits (condition_image flag mask s.image) l (on_at s.working l)
    unfolding condition_image
    raised_fit mask l b = stays_fit s.image _ l _ (O l b) (λ k h u q. flag_stays s.image flag mask (lasting_flag k) l there b q)

    -- a flag of a lane that is on after a lasting one: it was on, or is set now
    set_or_on : (on off l : ℕ) → l < 8 → (both (has (on_at s.working l) (lasting_index flag)) (not (has off l)) ≡ true) ⊎ (has on l ≡ true)
        → get (condition_image flag on s.image) (flag_at flag l) ≡ 1
    unfolding condition_image
    set_or_on on off l b (inl t) =
        let among = condition-among flag listed in
        flag_stays s.image flag on flag l there b (rw among.3 at ((O l b).shows (lasting_index flag) among.2 (both_l _ _ t)))
    set_or_on on off l b (inr t) = flag_in s.image flag on l there b t

    lasting_fit : (on off : ℕ) → AllOnFit (lasting_state flag on off s)
    unfolding lasting_state condition_on
    lasting_fit on off l b =
        let among = condition-among flag listed in
        rw (on_in s.working (λ m. condition_on (lasting_index flag) on off m (on_at s.working m)) l b)
        (with_fits (condition_image flag on s.image) l (on_at s.working l) (lasting_index flag) _ among.2 (raised_fit on l b)
        (λ t. rw among.3 (set_or_on on off l b (either_cases _ _ t))))

-- ---- a sample

module _ (l p : ℕ) (x : Image) (h : l < 8) (size : length x ≡ image_length) where
  -- one after the other: the power, then the flags of the high alarm, the low alarm, the high warning and the low warning
  abbrev in_place : Image
  in_place = put_word 2 x (received_power + 2 * l) p

  abbrev one : Image
  one = raised_image (above_alarm x p) high_alarm_flag l in_place

  abbrev two : Image
  two = raised_image (below_alarm x p) low_alarm_flag l one

  abbrev three : Image
  three = raised_image (above_warning x p) high_warning_flag l two

  size-place : length in_place ≡ image_length
  size-place = length-put-word 2 x (received_power + 2 * l) p ∙ size

  size-one : length one ≡ image_length
  size-one = raised_length _ high_alarm_flag l in_place (omega (arith, size-place)) h ∙ size-place

  size_two : length two ≡ image_length
  size_two = raised_length _ low_alarm_flag l one (omega (arith, size-one)) h ∙ size-one

  size-three : length three ≡ image_length
  size-three = raised_length _ high_warning_flag l two (omega (arith, size_two)) h ∙ size_two

  -- a flag that is 1 stays so from each to the next
  module _ (a m : ℕ) (b : m < 8) where
    to_one : get in_place (flag_at a m) ≡ 1 → get one (flag_at a m) ≡ 1
    to_one = raised_stays _ high_alarm_flag l in_place (omega (arith, size-place)) h a m b

    to_two : get one (flag_at a m) ≡ 1 → get two (flag_at a m) ≡ 1
    to_two = raised_stays _ low_alarm_flag l one (omega (arith, size-one)) h a m b

    to-three : get two (flag_at a m) ≡ 1 → get three (flag_at a m) ≡ 1
    to-three = raised_stays _ high_warning_flag l two (omega (arith, size_two)) h a m b

    to_last : get three (flag_at a m) ≡ 1 → get (sampled_image l p x) (flag_at a m) ≡ 1
    unfolding sampled_image
    to_last = raised_stays _ low_warning_flag l three (omega (arith, size-three)) h a m b

  -- so no flag falls
  sample_stays : (k m : ℕ) → k < lasting_count → m < 8 → get x (flag_at (lasting_flag k) m) ≡ 1 → get (sampled_image l p x) (flag_at (lasting_flag k) m) ≡ 1
  sample_stays k m b c e =
      to_last (lasting_flag k) m c (to-three (lasting_flag k) m c (to_two (lasting_flag k) m c (to_one (lasting_flag k) m c
      (get-same x in_place (flag_at (lasting_flag k) m) (rw (flag-byte k m c) (word-byte_other 2 x (received_power + 2 * l) p (lasting_at k) (inl (omega arith)))) ∙ e))))

  -- and each that the sample says is on is set
  sample-fits : (bits : ℕ) → OnFits (sampled_image l p x) l bits → OnFits (sampled_image l p x) l (sampled_on x p bits)
  unfolding sampled_on sampled_image
  sample-fits bits O =
      with_fits _ l _ (lasting_index low_warning_flag) _ (omega arith)
      (with_fits _ l _ (lasting_index high_warning_flag) _ (omega arith)
      (with_fits _ l _ (lasting_index low_alarm_flag) _ (omega arith)
      (with_fits _ l _ (lasting_index high_alarm_flag) _ (omega arith) O
      (λ t. to_last 149 l h (to-three 149 l h (to_two 149 l h (raised_in _ high_alarm_flag l in_place (omega (arith, size-place)) h t)))))
      (λ t. to_last 150 l h (to-three 150 l h (raised_in _ low_alarm_flag l one (omega (arith, size-one)) h t))))
      (λ t. to_last 151 l h (raised_in _ high_warning_flag l two (omega (arith, size_two)) h t)))
      (λ t. raised_in _ low_warning_flag l three (omega (arith, size-three)) h t)

sampled_fit : (s : State) → AllOnFit s → (l p : ℕ) → l < 8 → length s.image ≡ image_length → AllOnFit (sampled_state l p s)
unfolding sampled_state
sampled_fit s O l p h size m b =
    rw (on_in s.working (λ n. pick (eqb l n) (sampled_on s.image p (on_at s.working n)) (on_at s.working n)) m b)
    (split (eqb l m)
    (λ e. rw (pick_true _ _ e, ← (eqb-true l m e)) (sample-fits l p s.image h size _ (kept l h)))
    (λ e. rw (pick-false _ _ e) (kept m b)))
  where
    kept : (n : ℕ) → n < 8 → OnFits (sampled_image l p s.image) n (on_at s.working n)
    kept n c = stays_fit s.image _ n _ (O n c) (λ k d u q. sample_stays l p s.image h size k n d c q)

-- ---- every event

-- ---- a write, which may end in a reset

-- nothing is on
idle_fit : (x : Image) (line : Bool) → AllOnFit (state_with x (idle_with line))
idle_fit x line l b = rw (idle-on line l b) (record { few = omega arith; shows = λ k h t. absurd (clash t (has-zero k)) })

ended_fit : (s : State) → AllOnFit s → (address : ℕ) (bytes : List ℕ) (n : ℕ) → AllOnFit (ended_state address bytes n (bytes_written_state address bytes s))
unfolding ended_state reset_state
ended_fit s O address bytes n =
    let stored = bytes_written_state address bytes s in
    pick-has AllOnFit (resets address bytes n) (λ e. idle_fit (started_state stored.image).image stored.working.line)
    (λ e. same_fit s O (with_image stored (only_if (runs_command address n stored.image) command_image stored.image)) (λ l b. bytes_on l b address bytes s)
    (λ i a b. only_same (runs_command address n stored.image) stored i a b ∙ bytes_same address bytes s i a b))

carried_fit : (room : ℕ) (s : State) (bytes : List ℕ) (c : Call) → length s.image ≡ image_length → is_done (first_of (event_refusals room s c)) ≡ true
    → AllOnFit s → AllOnFit (event_effect early s bytes c).state
unfolding event_effect event_refusals is_done work_effect on_after
carried_fit room s bytes (Write address count) size d O = ended_fit s O address (take count bytes) count
carried_fit room s bytes (Read address count) size d O = read_fit s O (index_of s.image address) count size
carried_fit room s bytes (Work l) size d O =
    same_fit s O (event_effect early s bytes (Work l)).state (λ m b. event-on m b early s bytes (Work l)) (on_same (stage_at s.working l) s)
carried_fit room s bytes (Hardware l) size d O =
    same_fit s O (with_image s (hardware_image (holds_down s.working.line s.image) s.image l)) (λ m b. refl)
    (λ i a b. (hardware_off _ s.image l).byte i (inr (omega arith)) (inr (omega arith)) (inl (omega arith)))
carried_fit room s bytes (Condition flag mask) size d O = raised_fit s O flag (not-false _ (not-refused _ _ refl d).0) size mask
carried_fit room s bytes (Sample l p) size d O = sampled_fit s O l p (a_lane l (not-refused _ _ refl d).0) size
carried_fit room s bytes (Lasting flag on off) size d O = lasting_fit s O flag (not-false _ (not-refused _ _ refl d).0) size on off
carried_fit room s bytes Module size d O =
    same_fit s O (with_image s (module_image s.working.line s.image)) (λ m b. refl)
    (above_range lasting_from lasting_end (omega arith) (module_outside s.working.line s.image))
carried_fit room s bytes (Line on) size d O = same_fit s O (state_with s.image (with_line s.working on)) (λ m b. refl) (λ i a b. refl)

pub step_fit : (room : ℕ) (s : State) (e : Event) → length s.image ≡ image_length → AllOnFit s → AllOnFit (step early room s e).state
unfolding step answered_step done_step refused_step
step_fit room s e size O = split (is_done (first_of (event_refusals room s e.call)))
    (λ d. rw (pick_true _ _ d) (settled_fit (event_effect early s e.bytes e.call).state (carried_fit room s e.bytes e.call size d O)))
    (λ d. rw (pick-false _ _ d) O)
  where
    settled_fit : (t : State) → AllOnFit t → AllOnFit (with_image t (settled_image t.image))
    settled_fit t T = same_fit t T (with_image t (settled_image t.image)) (λ l b. refl) (above_range lasting_from lasting_end (omega arith) (settled_outside t.image))

-- start: nothing is on
pub start_fit : (x : Image) → AllOnFit (started_state x)
unfolding started_state
start_fit x = idle_fit (started_state x).image false
