-- What a trigger leaves: the groups that it marks (01 "Triggers and verdicts").
use Rattle.std.specs.Prelude.{Bool, false, not, eqb, Some, Option}
use Rattle.bits.specs.Choice.{pick, both}
use Rattle.bits.specs.Place.{get}
use Rattle.bits.specs.Sets.{Lane, LaneSet, has}
use Rattle.model.specs.Map.{Image, stepped_bit, staged_base}
use Rattle.model.specs.Statuses.{in_progress}
use Rattle.model.specs.Records.{stage_at, any_in_progress, with_stages, progress_of}
use Rattle.model.specs.State.{State}
use Rattle.model.specs.Registers.{with_status}
use Rattle.model.specs.View.{View, view_of, of}
use Rattle.model.specs.Groups.{group_of}
use Rattle.model.specs.Verdicts.{verdict_of}
use Rattle.model.specs.declared.lane.Trigger.{Trigger}
use Rattle.model.specs.declared.lane.Trigger.TheVariants.{DpInit, Immediate}
use Rattle.model.specs.declared.lane.StagedSet.{StagedSet}
use Rattle.model.specs.declared.lane.Progress.{Progress}
use Rattle.model.specs.declared.lane.Working.{Working}

-- lane l is marked: it is selected, and no lane of its group is in progress already
unfoldable pub is_marked : View → Working → LaneSet → Lane → Bool
is_marked v w selected l = both (has selected l) (not (any_in_progress w (has (group_of v selected l))))

-- its record: the staged set, the group, the settings staged now, and the verdict, fixed at once
unfoldable pub marked_stage : Trigger → StagedSet → View → LaneSet → Lane → Option Progress
marked_stage t set v selected l =
    Some (progress_of t set (group_of v selected l) (of v.staged l) (verdict_of t v (group_of v selected l)))

unfoldable pub stage_after : Trigger → StagedSet → View → Working → LaneSet → Lane → Option Progress
stage_after t set v w selected l = pick (is_marked v w selected l) (marked_stage t set v selected l) (stage_at w l)

unfoldable pub marked_state : Trigger → StagedSet → View → State → LaneSet → State
marked_state t set v s selected =
    record {
      image = with_status (is_marked v s.working selected) in_progress s.image;
      working = with_stages s.working (stage_after t set v s.working selected);
    }

-- ApplyImmediate does nothing where the module is configured in steps only
unfoldable pub is_ignored : Trigger → Image → Bool
is_ignored DpInit x = false
is_ignored Immediate x = eqb (get x stepped_bit) 1

-- a trigger of a staged set, which looks at that set alone of the two
unfoldable pub triggered_state : Trigger → StagedSet → State → LaneSet → State
triggered_state t set s selected = pick (is_ignored t s.image) s (marked_state t set (view_of (staged_base set) s.image) s selected)
