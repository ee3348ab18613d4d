-- A trigger marks the same lanes with the same records in both runs, and what it marks waits in the comparison run.
use Rattle.std.proofs.Common.{Some}
use mathlib.Core.Path.{◌≡◌, refl, sym, ap, ◌∙◌}
use mathlib.Core.Bool.{true, false}
use Prim.Native.Nat.{ℕ, ◌<◌}
use native.Mathlib.Omega.{arith}
use Rattle.bits.specs.Choice.{pick}
use Rattle.bits.proofs.Tests.{split, pick-false}
use Rattle.bits.proofs.Loops.{tab_ext}
use Rattle.model.specs.Map.{Image, staged_base, active_set}
use Rattle.model.specs.Statuses.{in_progress}
use Rattle.model.specs.Records.{record_at, stage_at, is_passing, with_stage, with_stages}
use Rattle.model.specs.View.{view_of, of, applications_of}
use Rattle.model.specs.Registers.{with_status}
use Rattle.model.specs.Triggers.{is_marked, stage_after, marked_state, is_ignored, triggered_state}
use Rattle.model.specs.State.{state_with}
use Rattle.model.specs.declared.lane.Trigger.{Trigger}
use Rattle.model.specs.declared.lane.StagedSet.{StagedSet}
use Rattle.model.specs.declared.lane.Verdict.TheVariants.{Pass}
use Rattle.model.specs.declared.lane.Progress.{Progress}
use Rattle.model.specs.declared.lane.Working.{Working}
use Rattle.laws_frames.proofs.Registers.{advertised_between, settings-same, applications-same}
use Rattle.laws_frames.proofs.Stages.{stage_in}
use Rattle.model.proofs.Triggers.{staged_base_lem}
use Rattle.laws_sound.specs.Sound.{seen_of, Sound}
use Rattle.laws_sound.proofs.Stranger.{idle_passing, now_fills}
use Rattle.laws_whole.proofs.Agree.{alike-lanes}
use Rattle.laws_whole.proofs.Sees.{active_of, swap, view_same}
use Rattle.laws_whole.proofs.Pairs.{passed, passing_busy, veiled, Fit, Pair, Paired, same-active, same_path_lem}
use Rattle.laws_whole.proofs.Decides.{busy_unmarked, marked_free, marked-own, marked-same, stage-same}
use Rattle.laws_whole.proofs.Kept.{keeps_status, waits_keeps}
use Rattle.laws_whole.proofs.Changes.{low, ignored_same}
use Rattle.laws_frames.proofs.Alike.{alike-status}

module _ (x y : Image) (w : Working) (S : Sound (seen_of (state_with x w))) (P : Pair x y w) (t : Trigger) (set : StagedSet) (selected : ℕ) where
  abbrev base : ℕ
  base = staged_base set

  late_view : view_of base y ≡ swap (view_of base x) (active_of y)
  late_view = view_same base x y (staged_base_lem set) (λ i a b. low (passed w) x y P.alike i b)

  marks : (l : ℕ) → l < 8 → is_marked (view_of base x) w selected l ≡ is_marked (view_of base y) w selected l
  unfolding view_of
  marks l b = rw late_view (marked-same (view_of base x) (active_of y) w selected (same-active x y w S P) (same_path_lem x y w S P) l b)

  stages : (l : ℕ) → l < 8 → stage_after t set (view_of base x) w selected l ≡ stage_after t set (view_of base y) w selected l
  unfolding view_of
  stages l b = rw late_view (stage-same (view_of base x) (active_of y) w selected (same-active x y w S P) (same_path_lem x y w S P) t set l b)

  workings : with_stages w (stage_after t set (view_of base y) w selected) ≡ with_stages w (stage_after t set (view_of base x) w selected)
  unfolding with_stages
  workings = λ i. record {
    lanes = tab_ext 8 (λ l. with_stage (record_at w l) (stage_after t set (view_of base y) w selected l))
        (λ l. with_stage (record_at w l) (stage_after t set (view_of base x) w selected l)) (λ l b. ap (with_stage (record_at w l)) (sym (stages l b))) i;
    line = w.line;
  }

  -- a lane that is not marked keeps its stage
  stays : (l : ℕ) → l < 8 → is_marked (view_of base x) w selected l ≡ false
      → stage_at (with_stages w (stage_after t set (view_of base x) w selected)) l ≡ stage_at w l
  unfolding stage_after
  stays l b e = stage_in w (stage_after t set (view_of base x) w selected) l b ∙ pick-false _ _ e

  -- a marked lane's active settings are the same in both runs, and they name its group in the run, which is sound
  new_fit : Sound (seen_of (marked_state t set (view_of base x) (state_with x w) selected)) → (l n : ℕ) (p : Progress) → l < 8
      → is_marked (view_of base x) w selected l ≡ true → stage_at (with_stages w (stage_after t set (view_of base x) w selected)) l ≡ Some p → p.verdict ≡ Pass n
      → Fit (applications_of y) p.group (of (active_of y) l)
  unfolding marked_state
  new_fit T l n p b k e q =
      let f : is_passing (stage_at w l) ≡ false = idle_passing (stage_at w l)
      (marked_free (view_of base x) w selected l l k b (marked-own (view_of base x) w selected l b k)) in
      let z = with_status (is_marked (view_of base x) w selected) in_progress x in
      let K = keeps_status (is_marked (view_of base x) w selected) in_progress x in
      rw (
        ← (same-active x y w S P l b f),
        applications-same x y (λ i d. low (passed w) x y P.alike i (omega (arith, advertised_between i d))),
        ← (settings-same active_set x z K.active),
        ← (applications-same x z K.advertised),
      )
      (now_fills _ T l n p b e q)

  marked-pair : Sound (seen_of (marked_state t set (view_of base x) (state_with x w) selected))
      → Paired (marked_state t set (view_of base x) (state_with x w) selected) (marked_state t set (view_of base y) (state_with y w) selected)
  unfolding marked_state
  marked-pair T = record {
    working = workings;
    pair = record {
      size = (keeps_status _ _ x).size ∙ P.size;
      alike = alike-lanes (passed w) _ _ _
          (λ l b p. rw (stays l b (busy_unmarked (view_of base x) w selected l b (passing_busy (stage_at w l) p))) p)
          (alike-status (veiled w) _ _ in_progress x y marks P.alike);
      waits = waits_keeps y _ (with_stages w (stage_after t set (view_of base x) w selected)) (keeps_status _ _ y) (λ l n p b e q. split (is_marked (view_of base x) w selected l)
          (λ k. new_fit T l n p b k e q)
          (λ k. P.waits l n p b (sym (stays l b k) ∙ e) q));
    };
  }

  pub triggered_pair : Sound (seen_of (triggered_state t set (state_with x w) selected))
      → Paired (triggered_state t set (state_with x w) selected) (triggered_state t set (state_with y w) selected)
  unfolding triggered_state pick
  triggered_pair T = split (is_ignored t x)
      (λ e. rw (ignored_same (passed w) x y P.alike t, e, pick) (record { working = refl; pair = P }))
      (λ e. rw (ignored_same (passed w) x y P.alike t, e, pick) (marked-pair (rw (e, pick) at T)))
