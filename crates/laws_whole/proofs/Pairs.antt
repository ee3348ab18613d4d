-- The two runs side by side, and that a lane of a passing group is on no path of a lane outside it, in either run.
use Rattle.std.proofs.Common.{Option, Some}
use mathlib.Core.Path.{◌≡◌, sym, ◌∙◌}
use mathlib.Core.Bool.{Bool, true, false}
use mathlib.Core.List.{List}
use Prim.Native.Nat.{ℕ, ◌<◌}
use lib.ListN.{length}
use Rattle.bits.proofs.Tests.{split, clash}
use Rattle.bits.proofs.Masks.{mask_ext}
use Rattle.model.specs.Map.{Image, active_set, image_length}
use Rattle.model.specs.Records.{stage_at, is_in_progress, is_passing}
use Rattle.model.specs.View.{of, application_in, app_sel, path_id, is_used, same_path, path_of, fills, applications_of}
use Rattle.model.specs.State.{State, state_with}
use Rattle.model.specs.declared.lane.Verdict.TheVariants.{Pass}
use Rattle.model.specs.declared.lane.Progress.{Progress}
use Rattle.model.specs.declared.lane.Settings.{Settings}
use Rattle.model.specs.declared.lane.Working.{Working}
use Rattle.model.specs.declared.application.Descriptor.{Descriptor}
use Rattle.laws_frames.proofs.Registers.{settings_at_same}
use Rattle.laws_sound.specs.Sound.{seen_of, Sound}
use Rattle.laws_sound.proofs.Paths.{same_together, fills_first}
use Rattle.laws_sound.proofs.Stranger.{Pass_of, passing_of, idle_passing, stranger, home_free}
use Rattle.laws_whole.specs.Whole.{active_bit_of}
use Rattle.laws_whole.proofs.Agree.{alike-setting}
use Rattle.laws_whole.proofs.Sees.{active_of, active_at}
use Rattle.laws_frames.specs.Alike.{Alike}

pub passing_busy : (s : Option Progress) → is_passing s ≡ true → is_in_progress s ≡ true
passing_busy s p = split (is_in_progress s) (λ e. e) (λ e. absurd (clash p (idle_passing s e)))

-- lane l belongs to a passing group
abbrev pub passed : Working → ℕ → Bool
passed w l = is_passing (stage_at w l)

-- what may differ inside the proof: active-setting bits of such lanes
abbrev pub veiled : Working → ℕ → ℕ → Bool
veiled w = active_bit_of (passed w)

-- settings whose whole path, if they are used, is the set g
abbrev pub Fit : List (Option Descriptor) → ℕ → Settings → Type 0
Fit applications g h = is_used h ≡ true → fills (application_in applications (app_sel h)) (path_id h) g ≡ true

-- in the comparison run a passing group waits for its copy: the active settings of its lanes, if they are used, still name the group
abbrev pub Waits : Image → Working → Type 0
Waits y w = (l n : ℕ) (p : Progress) → l < 8 → stage_at w l ≡ Some p → p.verdict ≡ Pass n → Fit (applications_of y) p.group (of (active_of y) l)

-- the image x of a run and the image y of its comparison run, with one working state
pub record Pair (x y : Image) (w : Working) : Type 0 where
  pub size : length x ≡ image_length
  pub alike : Alike (veiled w) x y
  pub waits : Waits y w

-- two states with one working state, whose images are such a pair
pub record Paired (s a : State) : Type 0 where
  pub working : a.working ≡ s.working
  pub pair : Pair s.image a.image s.working

module _ (x y : Image) (w : Working) (S : Sound (seen_of (state_with x w))) (P : Pair x y w) where
  -- the active settings of lanes outside passing groups are the same
  pub same-active : (l : ℕ) → l < 8 → is_passing (stage_at w l) ≡ false → of (active_of x) l ≡ of (active_of y) l
  same-active l b f = active_at x l b
      ∙ settings_at_same active_set y x l (λ k hk. alike-setting (passed w) x y P.alike k l hk b f) ∙ sym (active_at y l b)

  -- THE LEMMA, in the run: it is sound ..
  early_stranger : (l m : ℕ) → l < 8 → is_passing (stage_at w l) ≡ false → m < 8 → is_passing (stage_at w m) ≡ true → same_path (active_of x) l m ≡ false
  early_stranger l m b f bm p = let q : Pass_of (stage_at w m) = passing_of (stage_at w m) p in
      stranger (seen_of (state_with x w)) S l m q.next q.record_of_lem b f bm q.stage q.verdict

  -- .. and in the comparison run: the lane that the waiting group's DataPathID names is in the group, so it is no id of a path outside
  late_stranger : (l m : ℕ) → l < 8 → is_passing (stage_at w l) ≡ false → m < 8 → is_passing (stage_at w m) ≡ true → same_path (active_of y) l m ≡ false
  late_stranger l m b f bm p = split (same_path (active_of y) l m) (λ s. absurd (no_way s)) (λ s. s)
    where
      no_way : same_path (active_of y) l m ≡ true → ⊥
      no_way s =
          let t = same_together (active_of y) l m s in
          let q : Pass_of (stage_at w m) = passing_of (stage_at w m) p in
          let G = S.grouped m q.record_of_lem bm q.stage in
          let c = fills_first _ _ q.record_of_lem.group m (P.waits m q.next q.record_of_lem bm q.stage q.verdict t.other) bm G.own in
          let first = G.mate (path_id (of (active_of y) m)) c.0 c.1 in
          home_free (seen_of (state_with x w)) S l q.next (path_id (of (active_of y) m)) first.its b f
          (rw (same-active l b f) t.one) (rw (same-active l b f) t.id) first.stage (first.verdict ∙ q.verdict)

  -- so the paths of lanes outside passing groups are the same
  pub same_path_lem : (l m : ℕ) → l < 8 → m < 8 → is_passing (stage_at w l) ≡ false → same_path (active_of x) l m ≡ same_path (active_of y) l m
  unfolding same_path
  same_path_lem l m b bm f = split (is_passing (stage_at w m))
      (λ p. early_stranger l m b f bm p ∙ sym (late_stranger l m b f bm p))
      (λ p. rw (same-active l b f, same-active m bm p))

  pub same-lanes : (l : ℕ) → l < 8 → is_passing (stage_at w l) ≡ false → path_of (active_of x) l ≡ path_of (active_of y) l
  unfolding path_of
  same-lanes l b f = mask_ext 8 _ _ (λ m bm. same_path_lem l m b bm f)
