-- What marking has come to after some of the lanes.
use Rattle.std.specs.Prelude.{◌≡◌, ℕ, get_or, set}
use Rattle.bits.specs.Loop.{each}
use Rattle.bits.specs.Sets.{mask_of}
use Rattle.model.specs.Records.{idle_record, with_stage}
use Rattle.model.specs.View.{View}
use Rattle.model.specs.Triggers.{is_marked, marked_stage}
use Rattle.model.specs.declared.lane.Trigger.{Trigger}
use Rattle.model.specs.declared.lane.StagedSet.{StagedSet}
use Rattle.model.specs.declared.lane.Working.{Working}
use Rattle.apply_marks.specs.declared.Marking.{Marking}

-- the lanes below n that are to be marked have their stages, the low-power line is as it was, and the set is of them
pub record Marks (t : Trigger) (staged : StagedSet) (v : View) (w : Working) (selected n : ℕ) (m : Marking) : Type 0 where
  pub lanes : m.working.lanes ≡ each (is_marked v w selected) (λ l rs. set rs l (with_stage (get_or rs l idle_record) (marked_stage t staged v selected l))) n w.lanes
  pub line : m.working.line ≡ w.line
  pub marked : m.marked ≡ mask_of n (is_marked v w selected)
