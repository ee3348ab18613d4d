-- The lanes of a group: its first, and those from the next one on. Assumes nothing.
use mathlib.Core.Path.{◌≡◌, ap₂, sym, ◌∙◌}
use mathlib.Core.Bool.{Bool, true, false, not, ◌&&◌, ◌||◌}
use Prim.Native.Nat.{ℕ, ◌<◌, ◌≤◌}
use native.Mathlib.Omega.{arith}
use lib.Dec.{eqb, leb, ltb}
use borrow.Author.Tests.{leb-true, not-false}
use Rattle.bits.specs.Choice.{pick, both, either, implies}
use Rattle.bits.specs.Place.{get}
use Rattle.bits.specs.Sets.{has, mask_of, next_in, some_in, every_in}
use Rattle.bits.proofs.Tests.{both_l, both_r, and_both, or_implies}
use Rattle.bits.proofs.Loops.{any_find, any_ext, all_ext}
use Rattle.bits.proofs.Masks.{has-mask, first_in_lem, next_bound}
use Rattle.model.specs.Map.{Image, active_set, staged_set0, state_at}
use Rattle.model.specs.Records.{stage_at, held_in}
use Rattle.model.specs.PathStates.{state_of, resting}
use Rattle.model.specs.View.{View, view_of, settings_of, states_of, applications_of, of, is_used, settings_at}
use Rattle.model.specs.Work.{is_release, written_settings}
use Rattle.model.specs.Sound.{make_path, agree_on_state, held_settings_of, has_purpose, rests, not_copied, rest_is_whole, same_settings, holds_copied}
use Rattle.model.specs.declared.lane.Working.{Working}
use Rattle.sound_passing.proofs.Choices.{both_assoc, both_false}
use Rattle.view_paths.proofs.Lanes.{state_at_lem, state_past}
use Rattle.sound_paths.proofs.Wholes.{path_of-mask}
use Rattle.bits.specs.Loop.{all_below}
use Rattle.view_settings.proofs.View.{settings-of}

-- a test of the lanes from the next one on is one of the rest
pub some_rest : (g n : ℕ) (p : ℕ → Bool) → some_in g (λ m. both (leb n m) (p m)) ≡ some_in (mask_of 8 (not_copied g n)) p
unfolding some_in not_copied
some_rest g n p = any_ext 8 _ _ (λ m b. rw (has-mask 8 (not_copied g n) m b) (both_assoc (has g m) (leb n m) (p m)))

-- a group that has a lane has a first one
pub some_first : (g : ℕ) (p : ℕ → Bool) → some_in g p ≡ true → next_in 8 g 0 < 8
unfolding some_in
some_first g p e = let r = any_find 8 _ e in (first_in_lem 8 g 0 r.0 (omega arith) r.1 (both_l _ _ r.2)).0

-- .. and one from n on where it has such a lane
pub some_next : (g n : ℕ) (p : ℕ → Bool) → some_in g (λ m. both (leb n m) (p m)) ≡ true → (n ≤ 8) × (next_in 8 g n < 8)
unfolding some_in
some_next g n p e =
    let r = any_find 8 _ e in
    let h : n ≤ r.0 = leb-true _ _ (both_l _ _ (both_r (has g r.0) _ r.2)) in
    (omega arith, (first_in_lem 8 g n r.0 h r.1 (both_l _ _ r.2)).0)

-- ---- (e)
pub purpose-release : (v : View) (w : Working) (g : ℕ) → is_release w g ≡ true → true ≡ has_purpose v w g
unfolding has_purpose either
purpose-release v w g e = rw (e, either)

pub purpose_path : (v : View) (w : Working) (g : ℕ) (r : Bool) → is_release w g ≡ false
    → r ≡ make_path v.applications (held_settings_of w) (has g) (next_in 8 g 0) g → r ≡ has_purpose v w g
unfolding has_purpose either
purpose_path v w g r e q = rw (e, either) q

-- a group that is no release has a lane
pub held_first : (w : Working) (g : ℕ) → is_release w g ≡ false → next_in 8 g 0 < 8
unfolding is_release
held_first w g e = some_first g _ (not-false _ e)

-- the first lane of a group that has one
pub first_below : (g f : ℕ) → f ≡ next_in 8 g 0 → (f ≡ 8 → ⊥) → f < 8
first_below g f e n = let b = next_bound 8 g 0 (omega arith) in omega arith

pub rests-none : (x : Image) (w : Working) (g : ℕ) → next_in 8 g 0 ≡ 8 → false ≡ rests (view_of staged_set0 x) w g
unfolding rests view_of state_of resting pick both
rests-none x w g e = rw (state_past x (next_in 8 g 0) (omega arith)) (sym (both_false (agree_on_state (states_of x) g (next_in 8 g 0))))

pub rests_by : (x : Image) (w : Working) (g f s : ℕ) (t u c : Bool) → f < 8 → f ≡ next_in 8 g 0 → s ≡ get x (state_at f)
    → t ≡ agree_on_state (states_of x) g f → u ≡ resting (state_of s) → c ≡ is_release w g
    → (t && (u && (not c || eqb s 1))) ≡ rests (view_of staged_set0 x) w g
unfolding rests view_of
rests_by x w g f s t u c b p e q r d =
    rw (← p, state_at_lem x f b, ← e, ← d)
    (and_both t (u && (not c || eqb s 1)) ∙ ap₂ both q (and_both u (not c || eqb s 1) ∙ ap₂ both r (or_implies c (eqb s 1))))

pub copied_by : (x : Image) (w : Working) (g n : ℕ)
    → all_below 8 (λ m. implies (has g m) (implies (ltb m n) (same_settings (settings_at active_set x m) (written_settings (held_in (stage_at w m))))))
    ≡ holds_copied (view_of staged_set0 x) w g n
unfolding holds_copied every_in view_of
copied_by x w g n = all_ext 8 _ _ (λ m b. rw (settings-of active_set x m b))

module _ (x : Image) (g n : ℕ) where
  pub rest-unused : some_in (mask_of 8 (not_copied g n)) (λ m. is_used (of (settings_of active_set x) m)) ≡ false → true ≡ rest_is_whole (view_of staged_set0 x) g n
  unfolding rest_is_whole view_of either
  rest-unused e = rw (some_rest g n (λ m. is_used (of (settings_of active_set x) m)), e, either)

  pub rest-next : some_in (mask_of 8 (not_copied g n)) (λ m. is_used (of (settings_of active_set x) m)) ≡ true → (n ≤ 8) × (next_in 8 g n < 8)
  rest-next e = some_next g n (λ m. is_used (of (settings_of active_set x) m)) (some_rest g n _ ∙ e)

  pub rest_path : (r : Bool) → some_in (mask_of 8 (not_copied g n)) (λ m. is_used (of (settings_of active_set x) m)) ≡ true
      → r ≡ make_path (applications_of x) (settings_of active_set x) (has (mask_of 8 (not_copied g n))) (next_in 8 g n) g → r ≡ rest_is_whole (view_of staged_set0 x) g n
  unfolding rest_is_whole view_of either
  rest_path r e q =
      rw (some_rest g n (λ m. is_used (of (settings_of active_set x) m)), e, either)
      (q ∙ path_of-mask (applications_of x) (settings_of active_set x) (not_copied g n) (next_in 8 g n) g)
