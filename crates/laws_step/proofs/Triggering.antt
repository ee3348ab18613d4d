-- A trigger changes ConfigStatus of the lanes that it marks, and their records, and no active setting. Assumes nothing.
use mathlib.Core.Path.{◌≡◌, refl, ◌∙◌}
use mathlib.Core.Bool.{Bool, true, false}
use Prim.Native.Nat.{ℕ, ◌<◌}
use native.Mathlib.Omega.{arith}
use lib.Dec.{eqb}
use borrow.Author.Tests.{not-true, eq-eqb}
use Rattle.bits.specs.Choice.{pick, both}
use Rattle.bits.specs.Sets.{has}
use Rattle.bits.proofs.Tests.{split, clash, both_l, both_r, both_i, either_i_l, pick_true, pick-false}
use Rattle.bits.proofs.Loops.{any_none, tab_at}
use Rattle.bits.proofs.Masks.{has-mask}
use Rattle.model.specs.Map.{Image, staged_base, active_set, page11, on}
use Rattle.model.specs.Statuses.{in_progress}
use Rattle.model.specs.Records.{no_settings, stage_at, is_in_progress, any_in_progress}
use Rattle.model.specs.View.{View, view_of, of, is_used, path_id, same_path, settings_at, settings_of}
use Rattle.model.specs.Groups.{joined, released_with, in_group, group_of}
use Rattle.model.specs.State.{State}
use Rattle.model.specs.Registers.{with_status}
use Rattle.model.specs.Triggers.{is_marked, marked_stage, stage_after, marked_state, is_ignored, triggered_state}
use Rattle.model.specs.declared.lane.Trigger.{Trigger}
use Rattle.model.specs.declared.lane.StagedSet.{StagedSet}
use Rattle.model.specs.declared.lane.Working.{Working}
use Rattle.laws_step.specs.Changes.{ChangesOnly, status_set}
use Rattle.laws_step.specs.Told.{marks, MarkedFrom}
use Rattle.laws_step.proofs.Frames.{unless, keeps_refl, keeps_more, keeps_lanes, lanes_more, lanes_bytes}
use Rattle.laws_step.proofs.Places.{keeps_active}
use Rattle.laws_frames.proofs.Stages.{stage_in}

pub status_changes : (c : ℕ → Bool) (code : ℕ) (x : Image) → ChangesOnly (status_set c) x (with_status c code x)
unfolding with_status status_set
status_changes c code x = keeps_lanes c (on page11 202) 4 (λ l. code) x

-- a selected lane is in its own group
own-group : (v : View) (selected l : ℕ) → l < 8 → has selected l ≡ true → has (group_of v selected l) l ≡ true
unfolding group_of in_group joined released_with pick
own-group v selected l h e = has-mask 8 (in_group v selected l) l h ∙ both_i e (split (is_used (of v.staged l))
    (λ u. rw (u, pick) (both_i refl (eq-eqb (path_id (of v.staged l)) (path_id (of v.staged l)) refl)))
    (λ u. rw (u, pick) (both_i refl (either_i_l (eqb l l) (same_path v.active l l) (eq-eqb l l refl)))))

-- so a lane that is marked was idle
marked-idle : (v : View) (w : Working) (selected l : ℕ) → l < 8 → is_marked v w selected l ≡ true → is_in_progress (stage_at w l) ≡ false
unfolding is_marked any_in_progress
marked-idle v w selected l h e =
    let n = any_none 8 _ (not-true _ (both_r _ _ e)) l h in
    unless (λ p. clash (both_i (own-group v selected l h (both_l _ _ e)) p) n)

module _ (t : Trigger) (set : StagedSet) (s : State) (selected : ℕ) where
  pub trigger_changes : ChangesOnly (status_set (marks t set s selected)) s.image (triggered_state t set s selected).image
  unfolding triggered_state marked_state with_status status_set marks pick
  trigger_changes = split (is_ignored t s.image)
      (λ i. rw (i, pick) (keeps_refl _ s.image))
      (λ i. rw (i, pick) (keeps_more (λ j b. lanes_more _ _ _ 4 j b (λ l h e. both_i (rw i) e))
      (status_changes (is_marked (view_of (staged_base set) s.image) s.working selected) in_progress s.image)))

  -- no active setting of any lane
  pub trigger_keeps_active : (l : ℕ) → l < 8 → settings_at active_set (triggered_state t set s selected).image l ≡ settings_at active_set s.image l
  unfolding status_set
  trigger_keeps_active l h = keeps_active trigger_changes l h (λ i b p q. unless (λ c. let r = lanes_bytes _ _ 4 i b refl c in omega arith))

  -- a lane that is not marked keeps its record; one that is marked was idle, and holds what was staged in the trigger's set
  pub trigger_keeps_record : (l : ℕ) → l < 8 → marks t set s selected l ≡ false → stage_at (triggered_state t set s selected).working l ≡ stage_at s.working l
  unfolding triggered_state marked_state marks stage_after pick both
  trigger_keeps_record l h e = split (is_ignored t s.image)
      (λ i. rw (i, pick))
      (λ i. rw (i, pick) (stage_in s.working _ l h ∙ pick-false _ _ (rw (i, both) at e)))

  marked-stage : (l : ℕ) → l < 8 → marks t set s selected l ≡ true
      → stage_at (triggered_state t set s selected).working l ≡ marked_stage t set (view_of (staged_base set) s.image) selected l
  unfolding triggered_state marked_state marks stage_after pick
  marked-stage l h e = rw (not-true (is_ignored t s.image) (both_l _ _ e), pick) (stage_in s.working _ l h ∙ pick_true _ _ (both_r _ _ e))

  pub trigger-marks : (l : ℕ) → l < 8 → marks t set s selected l ≡ true
      → (is_in_progress (stage_at s.working l) ≡ false)
      × (stage_at (triggered_state t set s selected).working l ≡ marked_stage t set (view_of (staged_base set) s.image) selected l)
      × MarkedFrom t set s l (stage_at (triggered_state t set s selected).working l)
  unfolding marks marked_stage view_of settings_of
  trigger-marks l h e = (
    marked-idle _ _ selected l h (both_r _ _ e),
    marked-stage l h e,
    record {
      its = _;
      stage = marked-stage l h e;
      trigger = refl;
      set = refl;
      held = tab_at 8 (settings_at (staged_base set) s.image) l no_settings h;
    },
  )
