-- Changes of bytes that soundness does not look at; and the invariant that events keep. Assumes nothing.
use mathlib.Core.Path.{◌≡◌, refl, ◌∙◌}
use mathlib.Core.Bool.{Bool, true}
use mathlib.Core.List.{List, [], ◌∷◌}
use mathlib.Core.Logic.{inl, inr}
use Prim.Native.Nat.{ℕ, suc, ◌+◌, ◌-◌, ◌≤◌, ◌<◌}
use native.Mathlib.Decide.{dec_lt}
use native.Mathlib.Omega.{arith}
use lib.ListN.{length, get_or, set}
use Rattle.bits.specs.Choice.{both, either}
use Rattle.bits.specs.Place.{get}
use Rattle.bits.proofs.Tests.{split, clash, either_cases}
use Rattle.model.specs.Map.{Image, module_state, Range, range, range_on, on, page11, in_ranges, writable_ranges, writable, cleared_ranges, clearing, active_set, status_at, pending_at, image_length, state_bytes, status_bytes, page10, page9_f, flag_bytes, flag_byte_count, module_flags, command_status, reply_length}
use Rattle.model.specs.Records.{stage_at}
use Rattle.model.specs.State.{State}
use Rattle.model.specs.Power.{module_image}
use Rattle.model.specs.Flags.{is_condition_flag, condition_image, sampled_image, shown_again_image, settled_image}
use Rattle.model.specs.Pages.{selected_image}
use Rattle.model.specs.Access.{cleared_image}
use Rattle.model.specs.Commands.{command_image}
use Rattle.model.specs.declared.lane.Working.{Working}
use Rattle.laws_frames.proofs.Ranges.{between, apart_from, not_in, covered_by, covered_in, all_covered, ranges_in}
use Rattle.laws_frames.proofs.Outside.{set_outside}
use Rattle.laws_frames.proofs.Registers.{settings-same, states-same, applications-same, status-same, pending-same}
use Rattle.laws_frames.proofs.Changes.{settled_outside, module_outside, sampled_outside, flags_outside, selected_outside, cleared_byte, cleared_length, shown_outside}
use Rattle.laws_frames.proofs.Commands.{command_off}
use Rattle.laws_sound.specs.Sound.{seen_of, Sound}
use Rattle.laws_frames.specs.Frames.{Beside, SameOutside, SameOffCommand, state_end, pending_end, Advertised}
use Rattle.laws_sound.proofs.Closing.{quiet-sound, restaged_sound}

-- what holds of every state reached: the length of its image, lower byte 2 as it was, sound
pub record Well (two : ℕ) (s : State) : Type 0 where
  pub size : length s.image ≡ image_length
  pub low : get_or s.image 2 0 ≡ two
  pub sound : Sound (seen_of s)

-- ---- bytes that soundness does not look at

abbrev free_ranges : List Range
free_ranges = range 3 85 ∷ range 118 127 ∷ range page10 (page11 - 1) ∷ range state_end (status_bytes - 1) ∷ range page9_f (image_length - 1) ∷ []

abbrev pub Free : ℕ → Type 0
Free i = in_ranges free_ranges i ≡ true

-- the others stay
pub record Quiet (x y : Image) : Type 0 where
  pub size : length y ≡ length x
  pub byte : (i : ℕ) → (Free i → ⊥) → get_or y i 0 ≡ get_or x i 0

low-kept : Free 2 → ⊥
unfolding apart_from both either
low-kept = not_in 2 3 free_ranges 2 refl (omega arith) (omega arith)

pub advertised_kept : (i : ℕ) → Advertised i → Free i → ⊥
unfolding apart_from both either
advertised_kept i (inl d) = not_in 86 118 free_ranges i refl d.0 d.1
advertised_kept i (inr d) = not_in 128 page10 free_ranges i refl d.0 d.1

state-kept : (i : ℕ) → state_bytes ≤ i → i < state_end → Free i → ⊥
unfolding apart_from both either
state-kept i a b = not_in state_bytes state_end free_ranges i refl a b

-- ConfigStatus, the active settings and DPInitPending
pub lane-kept : (i : ℕ) → status_bytes ≤ i → i < pending_end → Free i → ⊥
unfolding apart_from both either
lane-kept i a b = not_in status_bytes pending_end free_ranges i refl a b

pub quiet_well : (two : ℕ) (x y : Image) (w : Working) → Quiet x y → Well two (record { image = x; working = w }) → Well two (record { image = y; working = w })
quiet_well two x y w Q W = record {
  size = Q.size ∙ W.size;
  low = Q.byte 2 low-kept ∙ W.low;
  sound =
      rw (
        settings-same active_set x y (λ i a b. Q.byte i (lane-kept i (omega arith) (omega arith))),
        states-same x y (λ i a b. Q.byte i (state-kept i a b)),
        applications-same x y (λ i d. Q.byte i (advertised_kept i d)),
      )
      (quiet-sound (seen_of (record { image = x; working = w })) (λ l. get y (status_at l)) (λ l. get y (pending_at l))
      (λ l b. status-same x y l b (λ i a b. Q.byte i (lane-kept i a (omega arith))))
      (λ l b. pending-same x y l b (λ i a b. Q.byte i (lane-kept i (omega arith) b))) W.sound);
}

-- the records change, and their stages do not
pub restaged_well : (two : ℕ) (x : Image) (w v : Working) → ((l : ℕ) → l < 8 → stage_at v l ≡ stage_at w l)
    → Well two (record { image = x; working = w }) → Well two (record { image = x; working = v })
restaged_well two x w v e W = record {
  size = W.size;
  low = W.low;
  sound = restaged_sound (seen_of (record { image = x; working = w })) (stage_at v) e W.sound;
}

-- ---- changes of free bytes

quiet_of : (lo hi : ℕ) {x y : Image} → ((i : ℕ) → lo ≤ i → i < hi → Free i) → SameOutside lo hi x y → Quiet x y
quiet_of lo hi f s = record { size = s.size; byte = λ i n. s.byte i (beside i n) }
  where
    beside : (i : ℕ) → (Free i → ⊥) → Beside lo hi i
    beside i n = elim (dec_lt i lo) [
      | yes h ↦ inl h
      | no h ↦ elim (dec_lt i hi) [ yes k ↦ absurd (n (f i (omega arith) k)) | no k ↦ inr (omega arith) ]
    ]

writable_free : (i : ℕ) → writable i ≡ true → Free i
unfolding writable all_covered covered_by both either
writable_free i e = ranges_in free_ranges writable_ranges i refl e

clearing_free : (i : ℕ) → clearing i ≡ true → Free i
unfolding clearing all_covered covered_by both either
clearing_free i e = ranges_in free_ranges cleared_ranges i refl e

first_flags : covered_by free_ranges (range_on page11 135 138) ≡ true
unfolding covered_by both either
first_flags = refl

last_flags : covered_by free_ranges (range_on page11 147 148) ≡ true
unfolding covered_by both either
last_flags = refl

condition_free : (flag : ℕ) → is_condition_flag flag ≡ true → Free (on page11 flag)
unfolding is_condition_flag in_ranges
condition_free flag e = elim (either_cases _ _ e) [
  | inl h ↦ let r = between 135 flag 138 h in covered_in free_ranges (range_on page11 135 138) (on page11 flag) first_flags (omega arith) (omega arith)
  | inr k ↦ elim (either_cases _ _ k) [
    | inl h ↦ let r = between 147 flag 148 h in covered_in free_ranges (range_on page11 147 148) (on page11 flag) last_flags (omega arith) (omega arith)
    | inr h ↦ absurd (clash h refl)
  ]
]

pub set-quiet : (x : Image) (i v : ℕ) → writable i ≡ true → Quiet x (set x i v)
set-quiet x i v e = quiet_of i (suc i) (λ j a b. let q : i ≡ j = omega arith in rw (← q) (writable_free i e)) (set_outside x i v)

pub selected_quiet : (page : ℕ) (x : Image) → Quiet x (selected_image page x)
unfolding covered_by both either
selected_quiet page x = quiet_of 126 128 (λ i a b. covered_in free_ranges (range 126 127) i refl a (omega arith)) (selected_outside page x)

pub settled_quiet : (x : Image) → Quiet x (settled_image x)
unfolding covered_by both either
settled_quiet x = quiet_of 3 4 (λ i a b. covered_in free_ranges (range 3 3) i refl a (omega arith)) (settled_outside x)

pub module_quiet : (line : Bool) (x : Image) → Quiet x (module_image line x)
unfolding covered_by both either
module_quiet line x =
    quiet_of module_state (module_flags + 1) (λ i a b. covered_in free_ranges (range module_state module_flags) i refl a (omega arith)) (module_outside line x)

pub sampled_quiet : (l p : ℕ) (x : Image) → l < 8 → Quiet x (sampled_image l p x)
unfolding covered_by both either
sampled_quiet l p x b = quiet_of flag_bytes status_bytes (λ i a c. covered_in free_ranges (range flag_bytes (status_bytes - 1)) i refl a (omega arith)) (sampled_outside l p x b)

pub condition-quiet : (flag mask : ℕ) (x : Image) → is_condition_flag flag ≡ true → Quiet x (condition_image flag mask x)
unfolding condition_image
condition-quiet flag mask x e = quiet_of (on page11 flag) (on page11 flag + 1)
    (λ i a b. let q : on page11 flag ≡ i = omega arith in rw (← q) (condition_free flag e)) (flags_outside flag mask x)

pub cleared_quiet : (x : Image) (i n : ℕ) → Quiet x (cleared_image x i n)
cleared_quiet x i n = record {
  size = cleared_length x i n;
  byte = λ j f. cleared_byte x i n j (split (clearing j) (λ t. absurd (f (clearing_free j t))) (λ t. t));
}

pub shown_quiet : (w : Working) (i n : ℕ) (x : Image) → Quiet x (shown_again_image w i n x)
unfolding covered_by both either
shown_quiet w i n x = quiet_of flag_bytes (flag_bytes + flag_byte_count)
    (λ j a b. covered_in free_ranges (range_on page11 134 153) j refl (omega arith) (omega arith)) (shown_outside w i n x)

-- a command changes free bytes alone
pub command_quiet : (x : Image) → Quiet x (command_image x)
unfolding covered_by both either
command_quiet x = record { size = C.size; byte = λ i n. C.byte i (λ e. n (flags_free i e)) (λ e. n (status_free i e)) (beside i n) }
  where
    C : SameOffCommand x (command_image x)
    C = command_off x

    flags_free : (i : ℕ) → i ≡ module_flags → Free i
    flags_free i e = covered_in free_ranges (range module_flags module_flags) i refl (omega arith) (omega arith)

    status_free : (i : ℕ) → i ≡ command_status → Free i
    status_free i e = covered_in free_ranges (range command_status command_status) i refl (omega arith) (omega arith)

    beside : (i : ℕ) → (Free i → ⊥) → Beside reply_length image_length i
    beside i n = elim (dec_lt i reply_length) [
      | yes h ↦ inl h
      | no h ↦ elim (dec_lt i image_length) [
        | yes k ↦ absurd (n (covered_in free_ranges (range reply_length (image_length - 1)) i refl (omega arith) (omega arith)))
        | no k ↦ inr (omega arith)
      ]
    ]
