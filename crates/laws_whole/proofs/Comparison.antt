-- What the comparison run is: an accepted group is carried out whole at its closing step, with the settings held at its trigger. Assumes nothing.
use Rattle.std.proofs.Common.{None, Some, Option}
use mathlib.Core.Path.{◌≡◌, refl, ◌∙◌}
use mathlib.Core.Bool.{true, false}
use Prim.Native.Nat.{ℕ, ◌<◌}
use lib.ListN.{length}
use Rattle.bits.specs.Sets.{has}
use Rattle.model.specs.Map.{Image, active_set, setting_at, image_length}
use Rattle.model.specs.Records.{stage_at, held_in, with_verdict}
use Rattle.model.specs.View.{settings_at}
use Rattle.model.specs.State.{State, state_with}
use Rattle.model.specs.Work.{written_settings, late, copy_next, copy_group, is_release, closed_state, closing_effect, copied_state}
use Rattle.model.specs.declared.lane.Trigger.{Trigger}
use Rattle.model.specs.declared.lane.Verdict.{Verdict}
use Rattle.model.specs.declared.lane.Progress.{Progress}
use Rattle.model.specs.declared.lane.Working.{Working}
use Rattle.laws_frames.proofs.Outside.{get-within}
use Rattle.laws_frames.proofs.Registers.{setting-from, setting-to, settings_at_same}
use Rattle.laws_frames.specs.Frames.{Fits}
use Rattle.laws_whole.proofs.Kept.{keeps_trans, keeps_status, keeps_after}
use Rattle.laws_whole.proofs.Copies.{group_in, group-out}

-- a step before the closing one leaves its image as it is
pub waits_for_closing : (s : State) (g n : ℕ) → (copied_state late s g n).image ≡ s.image
unfolding copied_state copy_next
waits_for_closing s g n = refl

-- and the settings held
pub holds_on : (s : Option Progress) (v : Verdict) → held_in (with_verdict s v) ≡ held_in s
unfolding held_in with_verdict
holds_on None v = refl
holds_on (Some p) v = refl

module _ (y : Image) (w : Working) (g : ℕ) (t : Trigger) (m : ℕ) (b : m < 8) where
  -- after the copy of the group, closing changes no active setting
  closing_keeps : settings_at active_set (closing_effect late (state_with y w) g t).state.image m ≡ settings_at active_set (copy_group late w g y) m
  unfolding closing_effect closed_state
  closing_keeps =
      let K = keeps_trans (keeps_after (is_release w g) t g (copy_group late w g y)) (keeps_status (has g) 1 _) in
      settings_at_same active_set (copy_group late w g y) _ m (λ k h. get-within _ _ (setting_at active_set k m) (setting-from active_set k m h b) (setting-to active_set k m h b) K.active)

  -- the closing step: every lane of the group holds what copying writes of the settings held for it ..
  pub closes_whole : length y ≡ image_length → has g m ≡ true → Fits (held_in (stage_at w m)) → settings_at active_set (closing_effect late (state_with y w) g t).state.image m ≡ written_settings (held_in (stage_at w m))
  closes_whole n i f = closing_keeps ∙ group_in w g y m b i n f

  -- .. and every other lane what it held
  pub closes_alone : has g m ≡ false → settings_at active_set (closing_effect late (state_with y w) g t).state.image m ≡ settings_at active_set y m
  closes_alone i = closing_keeps ∙ group-out w g y m b i
