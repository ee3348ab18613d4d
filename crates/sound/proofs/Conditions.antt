-- The conditions of soundness as the code asks them of one lane. Assumes nothing.
use Rattle.std.proofs.Common.{Option}
use mathlib.Core.Path.{◌≡◌, refl, sym, ap, ◌∙◌, ap₂}
use mathlib.Core.Bool.{Bool, true, false, not, ◌&&◌, ◌||◌}
use lib.Dec.{eqb, leb, ltb}
use Rattle.bits.specs.Choice.{both, implies, same}
use Rattle.bits.specs.Loop.{all_below}
use Rattle.bits.proofs.Tests.{both_i, implies_i, and_both, clash}
use Rattle.bits.proofs.Loops.{all_intro}
use Rattle.bits.proofs.Sets.{has-zero}
use Rattle.model.specs.View.{view_of, states_of, of, settings_of, applications_of, is_used, same_path, path_of}
use Rattle.model.specs.Sound.{agree_on_state, is_at_rest, make_path, in_whole_path, outside_passing, status_tells, stage_fits, group_fits, lane_sound, on_fits}
use Prim.Native.Nat.{ℕ, ◌^◌, ◌<◌}
use Rattle.bits.specs.Lane.{lane_field}
use Rattle.bits.specs.Place.{get}
use Rattle.bits.specs.Sets.{has}
use Rattle.model.specs.Map.{Image, active_set, staged_set0, state_at, pending_at, flag_at, lasting_count, lasting_flag, page11}
use Rattle.model.specs.Map as map
use Rattle.model.specs.Records.{stage_at, on_at, idle_working, is_passing}
use Rattle.model.specs.declared.lane.Working.{Working}
use Rattle.view_paths.proofs.Lanes.{state_at_lem}
use Rattle.model.specs.declared.lane.Progress.{Progress}
use Rattle.sound_paths.proofs.Wholes.{path_of-mask}
use Rattle.sound_passing.proofs.Choices.{four_by}

-- two tests agree where both hold or neither
pub same_by : (a b : Bool) → ((a && b) || (not a && not b)) ≡ same a b
unfolding same
same_by true true = refl
same_by true false = refl
same_by false b = refl

-- what must hold where a test fails
pub or_unless : (a b : Bool) → (a || b) ≡ implies (not a) b
unfolding implies
or_unless true b = refl
or_unless false b = refl

-- of two cases of a test, the one at hand
pub case_true : (u a b : Bool) → u ≡ true → a ≡ both (implies u a) (implies (not u) b)
unfolding both implies
case_true u true b e = rw (e, implies, both)
case_true u false b e = rw (e, implies, both)

pub case_false : (u a b : Bool) → u ≡ false → b ≡ both (implies u a) (implies (not u) b)
unfolding both implies
case_false u a b e = rw (e, implies, both)

-- a lane's conditions together
pub lane_by : (a b p o g : Bool) → ((a && b) && ((p || o) && g)) ≡ both (both a b) (both (implies (not p) o) g)
lane_by a b p o g = four_by a b (p || o) g ∙ ap (λ t. both (both a b) (both t g)) (or_unless p o)

pub rest_by : (x : Image) (l s p : ℕ) → l < 8 → s ≡ get x (state_at l) → p ≡ get x (pending_at l)
    → (eqb s 1 && eqb p 0) ≡ is_at_rest x (view_of staged_set0 x) l
unfolding is_at_rest view_of
rest_by x l s p h e f = rw (state_at_lem x l h, ← e, ← f) (and_both (eqb s 1) (eqb p 0))

-- (c) of a used lane
pub in_whole_by : (x : Image) (l g s : ℕ) (t u : Bool) → l < 8 → g ≡ path_of (settings_of active_set x) l → s ≡ get x (state_at l)
    → t ≡ make_path (applications_of x) (settings_of active_set x) (has g) l g → u ≡ agree_on_state (states_of x) g l
    → (t && (u && (leb 1 s && leb s 7))) ≡ in_whole_path (view_of staged_set0 x) l
unfolding in_whole_path view_of path_of
in_whole_by x l g s t u b p e q r =
    let made = path_of-mask (applications_of x) (settings_of active_set x) (same_path (settings_of active_set x) l) l g in
    rw (state_at_lem x l b, ← p, ← e)
    (and_both t (u && (leb 1 s && leb s 7)) ∙ ap₂ both (q ∙ (rw (← p) at made)) (and_both u (leb 1 s && leb s 7) ∙ ap₂ both r (and_both (leb 1 s) (leb s 7))))

-- (c) and (d): which of them is asked of a lane
pub outside_used : (x : Image) (l : ℕ) (r : Bool) → is_used (of (settings_of active_set x) l) ≡ true → r ≡ in_whole_path (view_of staged_set0 x) l
    → r ≡ outside_passing x (view_of staged_set0 x) idle_working l
unfolding outside_passing view_of
outside_used x l r t q = q ∙ case_true (is_used (of (settings_of active_set x) l)) _ _ t

pub outside_unused : (x : Image) (l : ℕ) (r : Bool) → is_used (of (settings_of active_set x) l) ≡ false → r ≡ is_at_rest x (view_of staged_set0 x) l
    → r ≡ outside_passing x (view_of staged_set0 x) idle_working l
unfolding outside_passing view_of
outside_unused x l r t q = q ∙ case_false (is_used (of (settings_of active_set x) l)) _ _ t

-- (a) to (e) of one lane
pub lane-sound_by : (x : Image) (w : Working) (l : ℕ) (s : Option Progress) (a b p o g : Bool) → s ≡ stage_at w l → a ≡ status_tells x w l → b ≡ stage_fits w l s
    → p ≡ is_passing s → o ≡ outside_passing x (view_of staged_set0 x) idle_working l → g ≡ group_fits (view_of staged_set0 x) w s
    → ((a && b) && ((p || o) && g)) ≡ lane_sound x (view_of staged_set0 x) w l
unfolding lane_sound outside_passing
lane-sound_by x w l s a b p o g es ea eb ep eo eg = rw (← es, ← ea, ← eb, ← ep, ← eg) (lane_by a b p o g ∙ ap (λ t. both (both a b) (both (implies (not p) t) g)) eo)

-- (f) of one flag
pub flag_by : (x : Image) (k l flag at bit : ℕ) → flag ≡ lasting_flag k → at ≡ map.on page11 flag → bit ≡ get x (lane_field at 1 l)
    → eqb bit 1 ≡ eqb (get x (flag_at (lasting_flag k) l)) 1
flag_by x k l flag at bit e p q = ap (λ b. eqb b 1) (q ∙ ap (λ a. get x (lane_field a 1 l)) (p ∙ ap (map.on page11) e))

-- .. of a lane with nothing on, and of any other
pub nothing_on : (x : Image) (w : Working) (l on : ℕ) → on ≡ on_at w l → on ≡ 0 → true ≡ on_fits x w l
unfolding on_fits
nothing_on x w l on e z =
    let off : on_at w l ≡ 0 = sym e ∙ z in
    rw off (sym (both_i refl (all_intro lasting_count _ (λ k b. implies_i _ _ (λ t. absurd (clash t (has-zero k)))))))

pub some_on : (x : Image) (w : Working) (l on : ℕ) (r : Bool) → on ≡ on_at w l
    → r ≡ all_below lasting_count (λ k. implies (has on k) (eqb (get x (flag_at (lasting_flag k) l)) 1))
    → (ltb on (2 ^ lasting_count) && r) ≡ on_fits x w l
unfolding on_fits
some_on x w l on r e h = rw (← e) (and_both _ r ∙ ap (both (ltb on (2 ^ lasting_count))) h)
