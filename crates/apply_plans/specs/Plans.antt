-- What a trigger finds of a lane's group, and what planning has come to after some of the lanes.
use Rattle.std.specs.Prelude.{◌≡◌, Bool, not, ℕ, set, None, Some, Option}
use Rattle.bits.specs.Choice.{pick, both}
use Rattle.bits.specs.Loop.{each, tab}
use Rattle.bits.specs.Sets.{Lane, LaneSet, lane_count, has, mask_of, some_in}
use Rattle.model.specs.View.{View}
use Rattle.model.specs.Groups.{group_of}
use Rattle.model.specs.Verdicts.{verdict_of}
use Rattle.model.specs.Triggers.{marked_stage}
use Rattle.model.specs.declared.lane.Trigger.{Trigger}
use Rattle.model.specs.declared.lane.StagedSet.{StagedSet}
use Rattle.model.specs.declared.lane.Progress.{Progress}
use Rattle.apply_plans.specs.declared.Found.{Found}
use Rattle.apply_plans.specs.declared.Given.{Given}
use Rattle.apply_plans.specs.declared.Planned.{Planned}

-- of a group that was found from a lane: the verdict on it, if none of its lanes is in progress
unfoldable pub known_of : Trigger → View → LaneSet → Lane → LaneSet → Found
known_of t v busy l g =
    record {
      lane = l;
      group = g;
      verdict = pick (some_in g (has busy)) None (Some (verdict_of t v g));
    }

unfoldable pub found_for : Trigger → View → LaneSet → LaneSet → Lane → Found
found_for t v busy selected l = known_of t v busy l (group_of v selected l)

-- a lane is to be marked: it is selected, and its group has no lane in progress
unfoldable pub is_planned : View → LaneSet → LaneSet → Lane → Bool
is_planned v busy selected l = both (has selected l) (not (some_in (group_of v selected l) (has busy)))

abbrev pub given : Option Progress → Given
given s = record { stage = s }

-- the set is of the lanes below n that are to be marked, and those have their stages
pub record Plans (t : Trigger) (staged : StagedSet) (v : View) (busy selected n : ℕ) (p : Planned) : Type 0 where
  pub marked : p.marked ≡ mask_of n (is_planned v busy selected)
  pub given : p.given ≡ each (is_planned v busy selected) (λ l gs. set gs l (given (marked_stage t staged v selected l))) n (tab lane_count (λ l. given None))
