-- A condition, once or lasting, sets the flag bits of its mask; a sample stores its power and sets the flags of the limits that it passes. Neither changes
-- anything else of the image but lower 3.0. Assumes nothing.
use mathlib.Core.Path.{◌≡◌, refl, sym, ap, ◌∙◌}
use mathlib.Core.Bool.{Bool, true, false, not}
use mathlib.Core.List.{List, [], ◌∷◌}
use mathlib.Core.Logic.{◌⊎◌, inl, inr, ◌≢◌}
use Prim.Native.Nat.{ℕ, ◌+◌, ◌*◌, ◌%◌, ◌^◌, ◌≤◌, ◌<◌}
use native.Mathlib.Nat.{mod-eq_of_lt}
use native.Mathlib.Decide.{dec_lt}
use native.Mathlib.Omega.{arith}
use lib.Dec.{eqb, ltb}
use lib.ListN.{length, get_or}
use borrow.Author.Tests.{ltb-true, eq-eqb, lt-ltb, le-leb, lt-leb, not-false}
use Rattle.bits.specs.Choice.{pick, both}
use Rattle.bits.specs.Number.{field}
use Rattle.bits.specs.Place.{get, put, digit}
use Rattle.bits.specs.Sets.{has}
use Rattle.bits.specs.Word.{put_word}
use Rattle.bits.proofs.Tests.{split, clash, both_i, pick_true, pick-false, only_true, only_false}
use Rattle.bits.proofs.Words.{length-put-word, word-byte_other, word-put, word_ext}
use Rattle.bits.proofs.Places.{get-put}
use Rattle.bits.proofs.Lanes.{lane_in, lane-width}
use Rattle.model.specs.Map.{Image, flag_at, received_power, high_alarm_limit, low_alarm_limit, high_warning_limit, high_alarm_flag, low_alarm_flag, high_warning_flag, low_warning_flag, page11, on, image_length}
use Rattle.model.specs.State.{State}
use Rattle.model.specs.Work.{early}
use Rattle.model.specs.Flags.{is_condition_flag, condition_image, lasting_state, power, raised_image, sampled_image, sampled_state, settled_image}
use Rattle.model.specs.Refusals.{refuse, no_such_lane, event_refusals}
use Rattle.model.specs.Answers.{is_done}
use Rattle.model.specs.Step.{event, event_effect, done_step}
use Rattle.model.specs.declared.answer.Answer.TheVariants.{Done, NoSuchTarget}
use Rattle.model.specs.declared.event.Call.{Call}
use Rattle.model.specs.declared.event.Call.TheVariants.{Condition, Sample, Lasting}
use Rattle.laws_frames.proofs.Back.{flag_in}
use Rattle.laws_step.specs.Changes.{ChangesOnly, or_in, in_bytes, interrupt_set, flag_set}
use Rattle.laws_step.specs.Told.{step_on, amid, sample_set, PowerTold}
use Rattle.laws_step.proofs.Places.{condition_in}
use Rattle.laws_step.proofs.Frames.{unless, in_lanes_lem, keeps_put, keeps_then, keeps_left, keeps_right, keeps_only, keeps_byte, keeps_lane, lanes_bytes}
use Rattle.laws_step.proofs.Settling.{settled_lane, settled_byte}
use Rattle.laws_step.proofs.Stepped.{not-refused, none-refused, done_step_lem, step_changes}
use Rattle.laws_step.proofs.Moving.{flag_changes}

-- ---- conditions, once or lasting

-- an event that is refused by its flag byte alone, and sets the flags of a set's lanes
module _ (room : ℕ) (s : State) (bytes : List ℕ) (c : Call) (flag mask : ℕ) (d : (step_on room s c bytes).answer ≡ Done)
    (r : event_refusals room s c ≡ refuse NoSuchTarget (not (is_condition_flag flag)) ∷ [])
    (e : (event_effect early s bytes c).state.image ≡ condition_image flag mask s.image) where
  flag-listed : is_condition_flag flag ≡ true
  unfolding is_done
  flag-listed = not-false _ (not-refused NoSuchTarget _ [] refl (rw r at (none-refused room s (event c bytes) d))).0

  sets_changes : ChangesOnly (or_in interrupt_set (flag_set flag (has mask))) s.image (step_on room s c bytes).state.image
  unfolding condition_image
  sets_changes = step_changes room s (event c bytes) _ d (rw e (flag_changes flag mask s.image))

  sets_flags : length s.image ≡ image_length → (m : ℕ) → m < 8 → has mask m ≡ true → get (step_on room s c bytes).state.image (flag_at flag m) ≡ 1
  unfolding done_step condition_image
  sets_flags size m h t = rw (done_step_lem room s (event c bytes) d, e)
      (settled_lane _ (on page11 flag) 1 m (omega arith) ∙ flag_in s.image flag mask m (omega (arith, condition_in flag flag-listed)) h t)

module _ (room : ℕ) (s : State) (bytes : List ℕ) (flag mask : ℕ) (d : (step_on room s (Condition flag mask) bytes).answer ≡ Done) where
  pub condition_changes : ChangesOnly (or_in interrupt_set (flag_set flag (has mask))) s.image (step_on room s (Condition flag mask) bytes).state.image
  unfolding event_effect event_refusals
  condition_changes = sets_changes room s bytes (Condition flag mask) flag mask d refl refl

  pub condition_keeps_records : (step_on room s (Condition flag mask) bytes).state.working ≡ s.working
  unfolding done_step event_effect
  condition_keeps_records = rw (done_step_lem room s (event (Condition flag mask) bytes) d)

  pub is_listed : is_condition_flag flag ≡ true
  unfolding event_effect event_refusals
  is_listed = flag-listed room s bytes (Condition flag mask) flag mask d refl refl

  -- every bit of the mask is set
  pub condition_sets : length s.image ≡ image_length → (m : ℕ) → m < 8 → has mask m ≡ true
      → get (step_on room s (Condition flag mask) bytes).state.image (flag_at flag m) ≡ 1
  unfolding event_effect event_refusals
  condition_sets = sets_flags room s bytes (Condition flag mask) flag mask d refl refl

module _ (room : ℕ) (s : State) (bytes : List ℕ) (flag on off : ℕ) (d : (step_on room s (Lasting flag on off) bytes).answer ≡ Done) where
  pub lasting_changes : ChangesOnly (or_in interrupt_set (flag_set flag (has on))) s.image (step_on room s (Lasting flag on off) bytes).state.image
  unfolding event_effect event_refusals lasting_state
  lasting_changes = sets_changes room s bytes (Lasting flag on off) flag on d refl refl

  pub lasting-listed : is_condition_flag flag ≡ true
  unfolding event_effect event_refusals lasting_state
  lasting-listed = flag-listed room s bytes (Lasting flag on off) flag on d refl refl

  -- every bit of the on mask is set, and none of the off mask is cleared
  pub lasting_sets : length s.image ≡ image_length → (m : ℕ) → m < 8 → has on m ≡ true
      → get (step_on room s (Lasting flag on off) bytes).state.image (flag_at flag m) ≡ 1
  unfolding event_effect event_refusals lasting_state
  lasting_sets = sets_flags room s bytes (Lasting flag on off) flag on d refl refl

-- ---- samples

-- a flag that is raised or not
module _ (test : Bool) (flag l : ℕ) (y : Image) (h : l < 8) where
  raise_changes : ChangesOnly (flag_set flag (eqb l)) y (raised_image test flag l y)
  unfolding raised_image flag_set
  raise_changes = keeps_only _ test _ y (keeps_put _ y (flag_at flag l) 1 (λ i b c. in_lanes_lem (eqb l) (on page11 flag) 1 l i b h (eq-eqb l l refl) c))

  raise_here : on page11 flag < length y → get (raised_image test flag l y) (flag_at flag l) ≡ pick test 1 (get y (flag_at flag l))
  unfolding raised_image
  raise_here b = split test
      (λ t. rw (only_true (λ z. put z (flag_at flag l) 1) y t) (get-put y (flag_at flag l) 1 (omega (arith, lane_in (on page11 flag) 1 l h refl))
      ∙ ap (λ k. 1 % 2 ^ k) (lane-width (on page11 flag) 1 l)) ∙ sym (pick_true _ _ t))
      (λ t. rw (only_false (λ z. put z (flag_at flag l) 1) y t) refl ∙ sym (pick-false _ _ t))

  raise_beside : (other m : ℕ) → m < 8 → on page11 flag ≢ on page11 other → get (raised_image test flag l y) (flag_at other m) ≡ get y (flag_at other m)
  unfolding flag_set
  raise_beside other m b n = keeps_lane raise_changes (on page11 other) 1 m b refl (λ i j p q.
      unless (λ t. let r = lanes_bytes (eqb l) (on page11 flag) 1 i j refl t in n (omega arith)))

  raise_byte : (i : ℕ) → on page11 flag < i → get_or (raised_image test flag l y) i 0 ≡ get_or y i 0
  unfolding flag_set
  raise_byte i o = keeps_byte raise_changes i (λ b. unless (λ t. let r = lanes_bytes (eqb l) (on page11 flag) 1 i b refl t in omega arith))

-- a byte that is not amid lies before or after
outside : (from to i : ℕ) → amid from to i ≡ false → (i < from) ⊎ (to ≤ i)
unfolding amid
outside from to i e = elim (dec_lt i from) [
  | yes l ↦ inl l
  | no l ↦ elim (dec_lt i to) [ yes k ↦ absurd (clash (both_i (le-leb from i (omega arith)) (lt-ltb i to k)) e) | no k ↦ inr (omega arith) ]
]

word_changes : (x : Image) (at v : ℕ) → ChangesOnly (in_bytes (amid at (at + 2))) x (put_word 2 x at v)
unfolding in_bytes digit
word_changes x at v = record { size = length-put-word 2 x at v; others = λ i b e. ap (λ n. field n b 1) (word-byte_other 2 x at v i (outside at (at + 2) i e)) }

module _ (l p : ℕ) (x : Image) (h : l < 8) where
  -- one after the other: the power, then the flags of the high alarm, the low alarm, the high warning and the low warning
  in_place : Image
  in_place = put_word 2 x (received_power + 2 * l) p

  one : Image
  one = raised_image (ltb (power x high_alarm_limit) p) high_alarm_flag l in_place

  two : Image
  two = raised_image (ltb p (power x low_alarm_limit)) low_alarm_flag l one

  three : Image
  three = raised_image (ltb (power x high_warning_limit) p) high_warning_flag l two

  sample_changes : ChangesOnly (sample_set l) x (sampled_image l p x)
  unfolding sample_set sampled_image in_place one two three
  sample_changes =
      keeps_then (keeps_left _ (word_changes x (received_power + 2 * l) p))
      (keeps_then (keeps_right _ (keeps_left _ (keeps_left _ (raise_changes _ high_alarm_flag l in_place h))))
      (keeps_then (keeps_right _ (keeps_left _ (keeps_right _ (raise_changes _ low_alarm_flag l one h))))
      (keeps_then (keeps_right _ (keeps_right _ (keeps_left _ (raise_changes _ high_warning_flag l two h))))
      (keeps_right _ (keeps_right _ (keeps_right _ (raise_changes _ low_warning_flag l three h)))))))

  -- the flags lie below the power
  flag_beside : (address : ℕ) → on page11 address < received_power → get in_place (flag_at address l) ≡ get x (flag_at address l)
  unfolding in_place in_bytes amid both
  flag_beside address b = keeps_lane (word_changes x (received_power + 2 * l) p) (on page11 address) 1 l h refl (λ i j u v.
      rw (lt-leb (received_power + 2 * l) i (omega arith), both))

  module _ (size : length x ≡ image_length) where
    size-one : length in_place ≡ image_length
    unfolding in_place
    size-one = length-put-word 2 x (received_power + 2 * l) p ∙ size

    size_two : length one ≡ image_length
    unfolding one
    size_two = (raise_changes _ high_alarm_flag l in_place h).size ∙ size-one

    size-three : length two ≡ image_length
    unfolding two
    size-three = (raise_changes _ low_alarm_flag l one h).size ∙ size_two

    size_four : length three ≡ image_length
    unfolding three
    size_four = (raise_changes _ high_warning_flag l two h).size ∙ size-three

    -- lane l's bit of another flag byte, before and after each flag is raised
    after_one : (a : ℕ) → on page11 high_alarm_flag ≢ on page11 a → get one (flag_at a l) ≡ get in_place (flag_at a l)
    unfolding one
    after_one a = raise_beside _ high_alarm_flag l in_place h a l h

    after_two : (a : ℕ) → on page11 low_alarm_flag ≢ on page11 a → get two (flag_at a l) ≡ get one (flag_at a l)
    unfolding two
    after_two a = raise_beside _ low_alarm_flag l one h a l h

    after-three : (a : ℕ) → on page11 high_warning_flag ≢ on page11 a → get three (flag_at a l) ≡ get two (flag_at a l)
    unfolding three
    after-three a = raise_beside _ high_warning_flag l two h a l h

    after_four : (a : ℕ) → on page11 low_warning_flag ≢ on page11 a → get (settled_image (sampled_image l p x)) (flag_at a l) ≡ get three (flag_at a l)
    unfolding sampled_image three two one in_place
    after_four a n = settled_lane _ (on page11 a) 1 l (omega arith) ∙ raise_beside _ low_warning_flag l three h a l h n

    power-byte : (i : ℕ) → received_power ≤ i → get_or (settled_image (sampled_image l p x)) i 0 ≡ get_or in_place i 0
    unfolding sampled_image three two one in_place
    power-byte i o =
        settled_byte _ i (omega arith)
        ∙ raise_byte _ low_warning_flag l three h i (omega arith)
        ∙ raise_byte _ high_warning_flag l two h i (omega arith)
        ∙ raise_byte _ low_alarm_flag l one h i (omega arith)
        ∙ raise_byte _ high_alarm_flag l in_place h i (omega arith)

    sample-told : p < 65536 → PowerTold l p x (settled_image (sampled_image l p x))
    unfolding sampled_image three two one in_place
    sample-told fits = record {
      stored = word_ext 2 (settled_image (sampled_image l p x)) in_place (received_power + 2 * l) (λ k b. power-byte (received_power + 2 * l + k) (omega arith))
          ∙ word-put 2 x (received_power + 2 * l) p (omega arith)
          ∙ mod-eq_of_lt fits;
      above_alarm = after_four 149 (omega arith) ∙ after-three 149 (omega arith) ∙ after_two 149 (omega arith)
          ∙ raise_here _ high_alarm_flag l in_place h (omega (arith, size-one))
          ∙ ap (pick _ 1) (flag_beside high_alarm_flag (omega arith));
      below_alarm = after_four 150 (omega arith) ∙ after-three 150 (omega arith)
          ∙ raise_here _ low_alarm_flag l one h (omega (arith, size_two))
          ∙ ap (pick _ 1) (after_one 150 (omega arith) ∙ flag_beside low_alarm_flag (omega arith));
      above_warning = after_four 151 (omega arith)
          ∙ raise_here _ high_warning_flag l two h (omega (arith, size-three))
          ∙ ap (pick _ 1) (after_two 151 (omega arith) ∙ after_one 151 (omega arith) ∙ flag_beside high_warning_flag (omega arith));
      below_warning = settled_lane _ (on page11 152) 1 l (omega arith)
          ∙ raise_here _ low_warning_flag l three h (omega (arith, size_four))
          ∙ ap (pick _ 1) (after-three 152 (omega arith) ∙ after_two 152 (omega arith) ∙ after_one 152 (omega arith)
          ∙ flag_beside low_warning_flag (omega arith));
    }

module _ (room : ℕ) (s : State) (bytes : List ℕ) (l p : ℕ) (d : (step_on room s (Sample l p) bytes).answer ≡ Done) where
  pub is_lane_lem : l < 8
  unfolding event_refusals no_such_lane is_done
  is_lane_lem = ltb-true l 8 (not-false _ (not-refused NoSuchTarget _ [] refl (none-refused room s (event (Sample l p) bytes) d)).0)

  pub sampled_changes : ChangesOnly (or_in interrupt_set (sample_set l)) s.image (step_on room s (Sample l p) bytes).state.image
  unfolding event_effect sampled_state
  sampled_changes = step_changes room s (event (Sample l p) bytes) _ d (sample_changes l p s.image is_lane_lem)

  -- the power, 16 bits, is stored, and the lane's flags tell which limits it passes
  pub sampled_told : length s.image ≡ image_length → p < 65536 → PowerTold l p s.image (step_on room s (Sample l p) bytes).state.image
  unfolding done_step event_effect sampled_state
  sampled_told size fits = rw (done_step_lem room s (event (Sample l p) bytes) d) (sample-told l p s.image is_lane_lem size fits)
