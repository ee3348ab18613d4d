-- Conditions, samples, hardware events, reads and the module event, in both runs or in one alone. Assumes nothing.
use mathlib.Core.Path.{◌≡◌, refl, sym, ap, ◌∙◌}
use mathlib.Core.Bool.{Bool, true, false}
use mathlib.Core.Logic.{inl, inr}
use Prim.Native.Nat.{ℕ, ◌+◌, ◌*◌, ◌/◌, ◌%◌, ◌≤◌, ◌<◌}
use native.Mathlib.Decide.{dec_lt}
use native.Mathlib.Omega.{arith}
use lib.Dec.{eqb}
use borrow.Author.Tests.{leb-true, eqb-true}
use Rattle.bits.specs.Choice.{pick, only_if}
use Rattle.bits.specs.Number.{field}
use Rattle.bits.specs.Place.{digit}
use Rattle.bits.specs.Sets.{has}
use Rattle.bits.specs.Word.{put_word}
use Rattle.bits.proofs.Tests.{split, clash, both_l, both_r, either_cases}
use Rattle.bits.proofs.Loops.{each_two, tab_at, tab_past, length-tab}
use Rattle.bits.proofs.Masks.{has-mask}
use Rattle.model.specs.Map.{Image, page11, on, module_controls, active_set, state_at, pending_at, deinit_at, output_disable_at, squelch_force_at, flag_at, lasting_count, lasting_flag, received_power, high_alarm_limit, low_alarm_limit, high_warning_limit, low_warning_limit, trigger_at, is_trigger, in_ranges}
use Rattle.model.specs.Records.{on_at, on_lanes}
use Rattle.model.specs.Registers.{with_pending, with_path_state, with_flags}
use Rattle.model.specs.View.{settings_of, path_of, same_path}
use Rattle.model.specs.Hardware.{some_bit, to_deinit, to_reinit, to_deactivate, signals_of, next_state, entered_image, moved_image, moved_path_image}
use Rattle.model.specs.Flags.{is_condition_flag, raised_image, sampled_image, sampled_on, is_read, shown_again_image}
use Rattle.model.specs.Access.{without_reset, shown_byte, taken_bytes}
use Rattle.model.specs.declared.path.PathState.{PathState}
use Rattle.model.specs.declared.lane.Working.{Working}
use Rattle.laws_frames.specs.Alike.{Alike}
use Rattle.laws_frames.proofs.Alike.{alike_only, alike_entered, alike_raised, alike-word}
use Rattle.laws_links.specs.Links.{unsaid, SameMask, PathsParted}
use Rattle.laws_links.proofs.Seeing.{own-state, own-pending, own_deinit, own_disable, own_squelch, own-flag, Same, low, put-inside, puts_both, puts_inside, power-inside}
use Rattle.laws_links.proofs.Nearness.{limit_same, some_seen}

-- ---- flags

pub condition-flag : (flag : ℕ) → is_condition_flag flag ≡ true → (134 ≤ flag) × (flag < 154)
unfolding is_condition_flag in_ranges
condition-flag flag e = elim (either_cases _ _ e) [
  | inl t ↦ (omega (arith, leb-true 135 flag (both_l _ _ t)), omega (arith, leb-true flag 138 (both_r _ _ t)))
  | inr t ↦ elim (either_cases _ _ t) [
    | inl r ↦ (omega (arith, leb-true 147 flag (both_l _ _ r)), omega (arith, leb-true flag 148 (both_r _ _ r)))
    | inr r ↦ absurd (clash r refl)
  ]
]

lasting-place : (k : ℕ) → k < lasting_count → (134 ≤ lasting_flag k) × (lasting_flag k < 154)
lasting-place k h = (omega arith, omega arith)

module _ (A : ℕ) where
  pub flags-both : (address m m' : ℕ) → 134 ≤ address → address < 154 → SameMask A m m' → (x y : Image) → Same A x y → Same A (with_flags address m x) (with_flags address m' y)
  unfolding with_flags
  flags-both address m m' lo hi e x y K = puts_both A (flag_at address) 1 (λ l h. own-flag address l lo hi h) (has m) (has m') 8 (omega arith) (λ l h a. e l (h, a)) x y K

  pub flags_alone : (address m : ℕ) → 134 ≤ address → address < 154 → ((l : ℕ) → l < 8 → has m l ≡ true → has A l ≡ true) → (x y : Image) → Same A x y → Same A (with_flags address m x) y
  unfolding with_flags
  flags_alone address m lo hi o x y K = puts_inside A (flag_at address) 1 (λ l h. own-flag address l lo hi h) (has m) o x y K

  -- ---- samples

  module _ (x y : Image) (K : Same A x y) where
    pub sampled_both : (l p : ℕ) → Same A (sampled_image l p x) (sampled_image l p y)
    unfolding sampled_image
    sampled_both l p = rw (
      limit_same A x y K high_alarm_limit (omega arith) (omega arith),
      limit_same A x y K low_alarm_limit (omega arith) (omega arith),
      limit_same A x y K high_warning_limit (omega arith) (omega arith),
      limit_same A x y K low_warning_limit (omega arith) (omega arith),
    )
        (alike_raised (unsaid A) _ 152 l _ _ (alike_raised (unsaid A) _ 151 l _ _
        (alike_raised (unsaid A) _ 150 l _ _ (alike_raised (unsaid A) _ 149 l _ _ (alike-word (unsaid A) (received_power + 2 * l) p x y K)))))

    pub sampled_on-same : (p bits : ℕ) → sampled_on x p bits ≡ sampled_on y p bits
    unfolding sampled_on
    sampled_on-same p bits = sym (rw (
      limit_same A x y K high_alarm_limit (omega arith) (omega arith),
      limit_same A x y K low_alarm_limit (omega arith) (omega arith),
      limit_same A x y K high_warning_limit (omega arith) (omega arith),
      limit_same A x y K low_warning_limit (omega arith) (omega arith),
    ))

  raised_alone : (test : Bool) (flag l : ℕ) → 134 ≤ flag → flag < 154 → l < 8 → has A l ≡ true → (x y : Image) → Same A x y → Same A (raised_image test flag l x) y
  unfolding raised_image only_if
  raised_alone true flag l lo hi h a x y K = put-inside A x y (flag_at flag l) 1 l h a (own-flag flag l lo hi h) K
  raised_alone false flag l lo hi h a x y K = K

  pub sampled_alone : (l p : ℕ) → l < 8 → has A l ≡ true → (x y : Image) → Same A x y → Same A (sampled_image l p x) y
  unfolding sampled_image put_word
  sampled_alone l p h a x y K =
      raised_alone _ 152 l (omega arith) (omega arith) h a _ y (raised_alone _ 151 l (omega arith) (omega arith) h a _ y
      (raised_alone _ 150 l (omega arith) (omega arith) h a _ y (raised_alone _ 149 l (omega arith) (omega arith) h a _ y
      (power-inside A _ y l 1 (p % 256) h (omega arith) a (power-inside A x y l 0 (p / 256 % 256) h (omega arith) a K)))))

  -- ---- hardware

  -- the lanes of a path lie with its own
  pub path_lanes : (x : Image) → PathsParted A x → (l m : ℕ) → l < 8 → m < 8 → has (path_of (settings_of active_set x) l) m ≡ true → has A m ≡ has A l
  unfolding path_of
  path_lanes x P l m h k i = P l m h k (sym (has-mask 8 (same_path (settings_of active_set x) l) m k) ∙ i)

  module _ (x y : Image) (K : Same A x y) (g : ℕ) (out : (m : ℕ) → m < 8 → has g m ≡ true → has A m ≡ false) where
    deinit_same : (down : Bool) → to_deinit down x g ≡ to_deinit down y g
    unfolding to_deinit some_bit
    deinit_same down = rw (some_seen A x y K deinit_at g own_deinit out)

    reinit_same : (down : Bool) → to_reinit down x g ≡ to_reinit down y g
    unfolding to_reinit some_bit
    reinit_same down = rw (deinit_same down, some_seen A x y K pending_at g own-pending out)

    deactivate_same : (down : Bool) → to_deactivate down x g ≡ to_deactivate down y g
    unfolding to_deactivate some_bit
    deactivate_same down = rw (reinit_same down, some_seen A x y K output_disable_at g own_disable out, some_seen A x y K squelch_force_at g own_squelch out)

    signals_same : (down : Bool) → signals_of down x g ≡ signals_of down y g
    unfolding signals_of
    signals_same down = λ i. record { deinit = deinit_same down i; reinit = reinit_same down i; deactivate = deactivate_same down i }

    pub moved_both : (down : Bool) (from : PathState) → Same A (moved_path_image down x g from) (moved_path_image down y g from)
    unfolding moved_path_image moved_image
    moved_both down from = rw (signals_same down)
        (alike_only (unsaid A) _ (entered_image g from (next_state from (signals_of down y g))) x y (alike_entered (unsaid A) g from _ x y) K)

  only_alone : (t : Bool) (f : Image → Image) (x y : Image) → (Same A x y → Same A (f x) y) → Same A x y → Same A (only_if t f x) y
  unfolding only_if
  only_alone true f x y h K = h K
  only_alone false f x y h K = K

  pub moved_alone : (g : ℕ) → ((m : ℕ) → m < 8 → has g m ≡ true → has A m ≡ true) → (down : Bool) (from : PathState) (x y : Image) → Same A x y → Same A (moved_path_image down x g from) y
  unfolding moved_path_image moved_image entered_image with_path_state with_pending
  moved_alone g own down from x y K = only_alone _ _ x y
      (λ L. only_alone _ _ _ y (flags_alone 134 g (omega arith) (omega arith) own _ y)
      (only_alone _ _ _ y (puts_inside A pending_at 0 own-pending (has g) own _ y) (puts_inside A state_at _ own-state (has g) own x y L))) K

  -- ---- reads

  module _ (x y : Image) (K : Same A x y) where
    shown_same : (i b : ℕ) → unsaid A i b ≡ false → field (shown_byte x i) b 1 ≡ field (shown_byte y i) b 1
    unfolding shown_byte without_reset pick digit
    shown_same i b e = split (is_trigger (trigger_at i))
        (λ t. rw (t, pick))
        (λ t. split (eqb i module_controls)
        (λ m. let q : i ≡ module_controls = eqb-true i module_controls m in rw (t, m, pick, low A x y K i (omega arith) (λ z. omega arith)))
        (λ m. rw (t, m, pick) (K.bits i b e)))

    pub taken-same : (i n : ℕ) → Alike (λ k b. unsaid A (i + k) b) (taken_bytes x i n) (taken_bytes y i n)
    unfolding taken_bytes digit
    taken-same i n = record {
      size = length-tab n _ ∙ sym (length-tab n _);
      bits = λ k b e. elim (dec_lt k n) [
        | yes l ↦ rw (tab_at n (λ k. shown_byte x (i + k)) k 0 l, tab_at n (λ k. shown_byte y (i + k)) k 0 l) (shown_same (i + k) b e)
        | no l ↦ rw (tab_past n (λ k. shown_byte x (i + k)) k 0 (omega arith), tab_past n (λ k. shown_byte y (i + k)) k 0 (omega arith))
      ];
    }

  -- what is on shows again
  ons_same : (w z : Working) → ((l : ℕ) → l < 8 → has A l ≡ false → on_at w l ≡ on_at z l) → (k : ℕ) → SameMask A (on_lanes w k) (on_lanes z k)
  unfolding on_lanes
  ons_same w z o k l h = has-mask 8 _ l h.0 ∙ ap (λ bits. has bits k) (o l h.0 h.1) ∙ sym (has-mask 8 _ l h.0)

  pub shown_again_both : (w z : Working) → ((l : ℕ) → l < 8 → has A l ≡ false → on_at w l ≡ on_at z l) → (i n : ℕ) (x y : Image) → Same A x y
      → Same A (shown_again_image w i n x) (shown_again_image z i n y)
  unfolding shown_again_image
  shown_again_both w z o i n x y K = each_two (Same A) (λ k. is_read i n (on page11 (lasting_flag k))) _ _ lasting_count
      (λ k u v b e L. let f = lasting-place k b in flags-both (lasting_flag k) (on_lanes w k) (on_lanes z k) f.0 f.1 (ons_same w z o k) u v L) x y K
