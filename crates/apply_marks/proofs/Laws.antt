-- The lanes that are planned are those that the model marks, and what they are given is what it gives them. Assumes nothing.
use Rattle.std.proofs.Common.{None}
use mathlib.Core.Path.{◌≡◌, sym, ap, ◌∙◌}
use mathlib.Core.Bool.{true, not}
use mathlib.Core.List.{List}
use Prim.Native.Nat.{ℕ, ◌<◌}
use lib.ListN.{get_or, set}
use Rattle.bits.specs.Choice.{both}
use Rattle.bits.specs.Loop.{each}
use Rattle.bits.specs.Sets.{has, mask_of, lane_count, some_in}
use Rattle.bits.proofs.Masks.{has-mask, mask_ext}
use Rattle.bits.proofs.Loops.{each_ext, any_ext, set_loop, tab_at, length-tab}
use Rattle.bits.proofs.Tests.{pick_true}
use Rattle.model.specs.Records.{idle_record, stage_at, is_in_progress, any_in_progress, with_stage}
use Rattle.model.specs.View.{View}
use Rattle.model.specs.Groups.{group_of}
use Rattle.model.specs.Triggers.{is_marked, marked_stage}
use Rattle.model.specs.declared.lane.LaneRecord.{LaneRecord}
use Rattle.model.specs.declared.lane.Trigger.{Trigger}
use Rattle.model.specs.declared.lane.StagedSet.{StagedSet}
use Rattle.model.specs.declared.lane.Working.{Working}
use Rattle.apply_plans.specs.declared.Given.{Given}
use Rattle.apply_plans.specs.declared.Planned.{Planned}
use Rattle.apply_plans.specs.Plans.{is_planned, given, Plans}
use Rattle.apply_marks.specs.declared.Marking.{Marking}
use Rattle.apply_marks.specs.Marks.{Marks}

-- the turn of the loop at lane l: its record has the stage that it is given
abbrev pub giving : List Given → ℕ → List LaneRecord → List LaneRecord
giving gs l rs = set rs l (with_stage (get_or rs l idle_record) (get_or gs l (given None)).stage)

module _ (v : View) (w : Working) (selected busy : ℕ) (h : busy ≡ mask_of lane_count (λ m. is_in_progress (stage_at w m))) where
  pub planned_marked : (l : ℕ) → is_planned v busy selected l ≡ is_marked v w selected l
  unfolding is_planned is_marked any_in_progress some_in
  planned_marked l =
      ap (λ q. both (has selected l) (not q))
      (any_ext lane_count _ _ (λ m b. ap (both (has (group_of v selected l) m)) (rw h (has-mask lane_count _ m b))))

  module _ (t : Trigger) (staged : StagedSet) (p : Planned) (d : Plans t staged v busy selected lane_count p) where
    pub marked-lanes : p.marked ≡ mask_of lane_count (is_marked v w selected)
    marked-lanes = d.marked ∙ mask_ext lane_count _ _ (λ l b. planned_marked l)

    marked-lane : (l : ℕ) → l < lane_count → has p.marked l ≡ is_marked v w selected l
    marked-lane l b = rw marked-lanes (has-mask lane_count (is_marked v w selected) l b)

    -- what a marked lane is given
    given_at : (l : ℕ) → l < lane_count → has p.marked l ≡ true → get_or p.given l (given None) ≡ given (marked_stage t staged v selected l)
    given_at l b e =
        ap (λ gs. get_or gs l (given None)) (d.given ∙ set_loop _ _ _ lane_count (given None) (length-tab lane_count (λ m. given None)))
        ∙ tab_at lane_count _ l (given None) b
        ∙ pick_true _ _ (planned_marked l ∙ sym (marked-lane l b) ∙ e)

    pub all_given : (m : Marking) → m.working.lanes ≡ each (has p.marked) (giving p.given) lane_count w.lanes → m.working.line ≡ w.line
        → m.marked ≡ p.marked → Marks t staged v w selected lane_count m
    all_given m e line s =
        record {
          lanes = e ∙ each_ext _ _ _ _ lane_count w.lanes marked-lane (λ l rs b q. ap (λ g. set rs l (with_stage (get_or rs l idle_record) g.stage)) (given_at l b q));
          line = line;
          marked = s ∙ marked-lanes;
        }
