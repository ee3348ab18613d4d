-- Two images that are alike but for active-setting bits of some lanes are so after every change but the copying. Assumes nothing.
use mathlib.Core.Path.{◌≡◌, refl, sym}
use mathlib.Core.Bool.{Bool, false, not}
use Prim.Native.Nat.{ℕ, ◌+◌, ◌*◌, ◌≤◌, ◌<◌}
use native.Mathlib.Decide.{dec_lt}
use native.Mathlib.Omega.{arith}
use lib.Dec.{ltb}
use lib.ListN.{get_or}
use borrow.Author.Tests.{ltb-true, not-false}
use Rattle.bits.specs.Choice.{pick, only_if, both, either}
use Rattle.bits.specs.Lane.{lane_field}
use Rattle.bits.specs.Loop.{tab, any_of, Among}
use Rattle.bits.specs.Place.{get, digit}
use Rattle.bits.specs.Sets.{some_in}
use Rattle.bits.specs.declared.Place.{Place}
use Rattle.bits.proofs.Tests.{both_l, both_r}
use Rattle.bits.proofs.Loops.{any_ext, all_ext}
use Rattle.bits.proofs.Members.{any_of-none, any_of_ext}
use Rattle.model.specs.Map.{Image, module_state, module_state_bits, module_controls, low_pwr_allow_bit, low_pwr_request_bit, kept, kept_ranges, set_length, state_at, pending_at, interrupt_bit, stepped_bit, received_power, active_set, FlagPair, flag_pairs, high_alarm_limit, low_alarm_limit, high_warning_limit, low_warning_limit, page10, firmware_major, firmware_minor}
use Rattle.model.specs.Triggers.{is_ignored}
use Rattle.model.specs.Power.{shown_module_state, is_low_power, is_dark, holds_down, module_entered_image, module_moved_image, module_image}
use Rattle.model.specs.Hardware.{some_bit, to_deinit, to_reinit, to_deactivate, signals_of, next_state, entered_image, moved_image, moved_path_image}
use Rattle.model.specs.Flags.{sampled_image, sampled_on, is_unmasked, interrupts, settled_image, power}
use Rattle.model.specs.Pages.{page_start, selected_start, index_of, selected_image}
use Rattle.model.specs.Commands.{command_image}
use Rattle.model.specs.Access.{runs_command}
use Rattle.model.specs.declared.lane.Trigger.{Trigger}
use Rattle.model.specs.declared.lane.Trigger.TheVariants.{DpInit, Immediate}
use Rattle.model.specs.declared.path.PathState.{PathState}
use Rattle.laws_frames.proofs.Outside.{get-same}
use Rattle.laws_frames.proofs.Registers.{pending-same, state-same, word_same, lane-to}
use Rattle.laws_frames.proofs.Ranges.{apart_from, not_in}
use Rattle.laws_frames.proofs.Starting.{SameKept}
use Rattle.laws_whole.specs.Whole.{active_bit_of}
use Rattle.laws_whole.proofs.Agree.{alike_below, alike_above}
use Rattle.laws_frames.proofs.Alike.{alike_command, alike_entered, alike_module_entered, alike_only, alike_page, alike-put, alike_raised, alike-word}
use Rattle.laws_frames.specs.Alike.{Alike}

-- ---- active-setting bits of the lanes of c may differ: everything else that is looked at is the same

-- every flag and every mask lies below the active settings
lies_below : FlagPair → Bool
lies_below p = both (ltb p.flag active_set) (ltb p.mask active_set)

all_below_lem : any_of flag_pairs (λ p. not (lies_below p)) ≡ false
unfolding lies_below any_of tab both either
all_below_lem = refl

flags_below : (p : FlagPair) → Among p flag_pairs → (p.flag < active_set) × (p.mask < active_set)
unfolding lies_below
flags_below p m = let t = not-false _ (any_of-none _ flag_pairs p all_below_lem m) in (ltb-true _ _ (both_l _ _ t), ltb-true _ _ (both_r _ _ t))

module _ (c : ℕ → Bool) (x y : Image) (A : Alike (active_bit_of c) x y) where
  pub low : (i : ℕ) → i < active_set → get_or y i 0 ≡ get_or x i 0
  low i b = sym (alike_below c x y A i b)

  pub ignored_same : (t : Trigger) → is_ignored t y ≡ is_ignored t x
  unfolding is_ignored
  ignored_same DpInit = refl
  ignored_same Immediate = rw (get-same x y stepped_bit (low 2 (omega arith)))

  pub place_same : (address : ℕ) → index_of y address ≡ index_of x address
  unfolding index_of selected_start
  place_same address = rw (low 126 (omega arith), low 127 (omega arith))

  pub alike_selected : (page : ℕ) → Alike (active_bit_of c) (selected_image page x) (selected_image page y)
  unfolding selected_image
  alike_selected page = rw (low 126 (omega arith)) (alike_page (active_bit_of c) (page_start (get_or x 126 0) page) page x y A)

  unmasked_same : (p : FlagPair) (b : ℕ) → (p.flag < active_set) × (p.mask < active_set) → is_unmasked y p b ≡ is_unmasked x p b
  unfolding is_unmasked digit
  unmasked_same p b (f, m) = rw (low p.flag f, low p.mask m)

  interrupts-same : interrupts y ≡ interrupts x
  unfolding interrupts
  interrupts-same = any_of_ext _ _ flag_pairs (λ p m. any_ext 8 _ _ (λ b h. unmasked_same p b (flags_below p m)))

  pub alike_settled : Alike (active_bit_of c) (settled_image x) (settled_image y)
  unfolding settled_image
  alike_settled = rw interrupts-same (alike-put (active_bit_of c) x y interrupt_bit (pick (interrupts x) 0 1) A)

  -- a command looks at page 9Fh and at lower 39 and 40
  command_same : Alike (active_bit_of c) (command_image x) (command_image y)
  command_same = alike_command (active_bit_of c) x y (λ i a b. sym (alike_above c x y A i (omega arith))) (low firmware_major (omega arith)) (low firmware_minor (omega arith)) A

  runs_same : (address n : ℕ) → runs_command address n y ≡ runs_command address n x
  unfolding runs_command selected_start
  runs_same address n = rw (low 126 (omega arith), low 127 (omega arith))

  pub alike-ended : (address n : ℕ)
      → Alike (active_bit_of c) (only_if (runs_command address n x) command_image x) (only_if (runs_command address n y) command_image y)
  alike-ended address n = rw (runs_same address n) (alike_only (active_bit_of c) (runs_command address n x) command_image x y (λ B. command_same) A)

  limit_same : (at : ℕ) → at + 2 ≤ active_set → power y at ≡ power x at
  limit_same at h = word_same 2 at x y (λ i a b. low i (omega arith))

  pub alike_sampled : (l p : ℕ) → Alike (active_bit_of c) (sampled_image l p x) (sampled_image l p y)
  unfolding sampled_image
  alike_sampled l p = rw (limit_same high_alarm_limit (omega arith), limit_same low_alarm_limit (omega arith), limit_same high_warning_limit (omega arith), limit_same low_warning_limit (omega arith))
      (alike_raised (active_bit_of c) _ 152 l _ _ (alike_raised (active_bit_of c) _ 151 l _ _
      (alike_raised (active_bit_of c) _ 150 l _ _ (alike_raised (active_bit_of c) _ 149 l _ _ (alike-word (active_bit_of c) (received_power + 2 * l) p x y A)))))

  -- what a sample says is on
  sampled_bits : (p bits : ℕ) → sampled_on y p bits ≡ sampled_on x p bits
  unfolding sampled_on
  sampled_bits p bits = rw (limit_same high_alarm_limit (omega arith), limit_same low_alarm_limit (omega arith), limit_same high_warning_limit (omega arith), limit_same low_warning_limit (omega arith))

  pub sampled_same : (p : ℕ) → sampled_on y p ≡ sampled_on x p
  sampled_same p = λ i bits. sampled_bits p bits i

  pub state-read : (l : ℕ) → l < 8 → get y (state_at l) ≡ get x (state_at l)
  state-read l b = state-same x y l b (λ i a h. low i (omega arith))

  -- ---- the module's power: it looks at lower 3 and 26, and at DPState

  module_state-same : shown_module_state y ≡ shown_module_state x
  unfolding shown_module_state
  module_state-same = rw (get-same x y module_state_bits (low module_state (omega arith)))

  low-power-same : (line : Bool) → is_low_power line y ≡ is_low_power line x
  unfolding is_low_power
  low-power-same line = rw (get-same x y low_pwr_request_bit (low module_controls (omega arith)), get-same x y low_pwr_allow_bit (low module_controls (omega arith)))

  dark-same : is_dark y ≡ is_dark x
  unfolding is_dark
  dark-same = all_ext 8 _ _ (λ l b. rw (state-read l b))

  pub down_same : (line : Bool) → holds_down line y ≡ holds_down line x
  unfolding holds_down
  down_same line = rw (module_state-same, low-power-same line)

  pub alike_module : (line : Bool) → Alike (active_bit_of c) (module_image line x) (module_image line y)
  unfolding module_image module_moved_image
  alike_module line = rw (module_state-same, low-power-same line, dark-same)
      (alike_only (active_bit_of c) _ (module_entered_image _ (is_low_power line x)) x y (alike_module_entered (active_bit_of c) _ (is_low_power line x) x y) A)

  -- what start keeps is no active setting
  pub kept_same : SameKept x y
  unfolding kept apart_from both either
  kept_same i k = elim (dec_lt i active_set) [
    | yes b ↦ low i b
    | no b ↦ elim (dec_lt i (active_set + set_length)) [
      | yes h ↦ absurd (not_in active_set (active_set + set_length) kept_ranges i refl (omega arith) h k)
      | no h ↦ sym (alike_above c x y A i (omega arith))
    ]
  ]

  -- ---- a path's signals

  some_same : (place : ℕ → Place) (g : ℕ) → ((m : ℕ) → m < 8 → get y (place m) ≡ get x (place m)) → some_bit y place g ≡ some_bit x place g
  unfolding some_bit some_in
  some_same place g same = any_ext 8 _ _ (λ m b. rw (same m b))

  -- a byte of controls, a bit a lane
  control_same : (byte g : ℕ) → byte < active_set → some_bit y (lane_field byte 1) g ≡ some_bit x (lane_field byte 1) g
  control_same byte g h = some_same (lane_field byte 1) g (λ m b. get-same x y (lane_field byte 1 m) (low _ (omega (arith, lane-to byte 1 m b refl))))

  deinit_same : (down : Bool) (g : ℕ) → to_deinit down y g ≡ to_deinit down x g
  unfolding to_deinit
  deinit_same down g = rw (control_same page10 g (omega arith))

  reinit_same : (down : Bool) (g : ℕ) → to_reinit down y g ≡ to_reinit down x g
  unfolding to_reinit
  reinit_same down g = rw (deinit_same down g, some_same pending_at g (λ m b. pending-same x y m b (λ i a h. sym (alike_above c x y A i (omega arith)))))

  deactivate_same : (down : Bool) (g : ℕ) → to_deactivate down y g ≡ to_deactivate down x g
  unfolding to_deactivate
  deactivate_same down g = rw (reinit_same down g, control_same 514 g (omega arith), control_same 516 g (omega arith))

  signals_same : (down : Bool) (g : ℕ) → signals_of down y g ≡ signals_of down x g
  unfolding signals_of
  signals_same down g = λ i. record { deinit = deinit_same down g i; reinit = reinit_same down g i; deactivate = deactivate_same down g i }

  pub alike_moved : (down : Bool) (g : ℕ) (from : PathState) → Alike (active_bit_of c) (moved_path_image down x g from) (moved_path_image down y g from)
  unfolding moved_path_image moved_image
  alike_moved down g from = rw (signals_same down g)
      (alike_only (active_bit_of c) _ (entered_image g from (next_state from (signals_of down x g))) x y (alike_entered (active_bit_of c) g from _ x y) A)
