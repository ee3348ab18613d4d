-- How the selected lanes fall into groups (01 "Triggers and verdicts").
use Rattle.std.specs.Prelude.{Bool, not, List, eqb}
use Rattle.bits.specs.Choice.{pick, both, either}
use Rattle.bits.specs.Sets.{Lane, LaneSet, lane_count, has, mask_of}
use Rattle.model.specs.View.{path_id, View, of, is_used, same_path}
use Rattle.model.specs.declared.lane.Settings.{Settings}

-- lanes l and m are set up together: used in the staged set, with one staged DataPathID
unfoldable pub joined : List Settings → Lane → Lane → Bool
joined staged l m = both (is_used (of staged m)) (eqb (path_id (of staged l)) (path_id (of staged m)))

-- they are released together: AppSel 0 staged, on one active path; a lane on no path goes alone
unfoldable pub released_with : List Settings → List Settings → Lane → Lane → Bool
released_with active staged l m = both (not (is_used (of staged m))) (either (eqb l m) (same_path active l m))

-- lane m is in the group of lane l
unfoldable pub in_group : View → LaneSet → Lane → Lane → Bool
in_group v selected l m =
    both (has selected m) (pick (is_used (of v.staged l)) (joined v.staged l m) (released_with v.active v.staged l m))

-- the group of lane l among the selected lanes
unfoldable pub group_of : View → LaneSet → Lane → LaneSet
group_of v selected l = mask_of lane_count (in_group v selected l)
