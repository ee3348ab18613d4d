-- What a trigger leaves once all lanes are marked. Assumes nothing.
use mathlib.Core.Path.{◌≡◌, refl, ◌∙◌}
use mathlib.Core.Bool.{true, false}
use Prim.Native.Nat.{ℕ}
use lib.ListN.{length}
use Rattle.bits.specs.Loop.{each}
use Rattle.bits.specs.Place.{put}
use Rattle.bits.specs.Sets.{has, lane_count}
use Rattle.bits.proofs.Tests.{pick_true, pick-false}
use Rattle.bits.proofs.Masks.{has-mask}
use Rattle.bits.proofs.Loops.{each_ext}
use Rattle.records.proofs.Stages.{stages_loop}
use Rattle.model.specs.Map.{Image, staged_base, status_at}
use Rattle.model.specs.Statuses.{in_progress}
use Rattle.model.specs.View.{view_of}
use Rattle.model.specs.Registers.{with_status}
use Rattle.model.specs.Triggers.{marked_stage, stage_after, marked_state, is_ignored, triggered_state}
use Rattle.contracts.specs.Forms.{IsState}
use Rattle.model.specs.State.{state_with}
use Rattle.model.specs.declared.lane.Trigger.{Trigger}
use Rattle.model.specs.declared.lane.StagedSet.{StagedSet}
use Rattle.model.specs.declared.lane.Working.{Working}
use Rattle.apply_marks.specs.declared.Marking.{Marking}
use Rattle.apply_marks.specs.Marks.{Marks}

module _ (t : Trigger) (staged : StagedSet) (x : Image) (w : Working) (selected : ℕ) where
  pub left_alone : is_ignored t x ≡ true → IsState (triggered_state t staged (state_with x w) selected) x w
  unfolding triggered_state
  left_alone e = rw (pick_true _ _ e) (record { image = refl; working = refl })

  pub all_marked : (m : Marking) (y : Image) (code : ℕ) → length w.lanes ≡ lane_count → is_ignored t x ≡ false
      → Marks t staged (view_of (staged_base staged) x) w selected lane_count m → code ≡ in_progress
      → y ≡ each (has m.marked) (λ l z. put z (status_at l) code) lane_count x
      → IsState (triggered_state t staged (state_with x w) selected) y m.working
  unfolding triggered_state marked_state with_status stage_after
  all_marked m y code len e h s p =
      rw (pick-false _ _ e)
      (record {
        image = p ∙ each_ext _ _ _ _ lane_count x (λ l b. rw h.marked (has-mask lane_count _ l b)) (λ l z b c. rw s);
        working = stages_loop _ (λ l s. marked_stage t staged (view_of (staged_base staged) x) selected l) w m.working len h.line h.lanes;
      })
