-- The checker computes the runs: what the theorem supposes can hold while A does very different things, and without it the theorem would be false. Assumes nothing.
use mathlib.Core.Path.{◌≡◌, refl}
use mathlib.Core.Bool.{true}
use lib.Dec.{T}
use Rattle.bits.specs.Choice.{same}
use Rattle.model.specs.Outcome.{list_room}
use Rattle.model.specs.Start.{started_state}
use Rattle.laws_links.specs.Links.{lies, lane_of, belongs, inside, SameOutside}
use Rattle.cases_links.specs.Side.{laid_out, paths_test, groups_test, byte_test, bytes_test, call_test, parted_test, is_inside, only_test, shared_test, concerns_test, own_bytes_test, own_test, module_test, supposed_test}
use Rattle.cases_links.proofs.Side.{supposed_means}
use Rattle.laws_links.proofs.Theorem.{two_runs}
use Rattle.cases.specs.Computed.{all_hold}
use Rattle.cases_links.specs.Links.{first_end, second_end, end_of, camera, two_applications, side_by_side, one_lane, two_lanes, linked}

pub linked_hold : T (all_hold linked)
unfolding all_hold first_end second_end end_of two_applications one_lane two_lanes
linked_hold = tt

-- the runs side by side meet all that is supposed
pub as_supposed : supposed_test camera list_room (started_state two_applications) (started_state two_applications) side_by_side ≡ true
unfolding all_hold same lies lane_of belongs inside paths_test groups_test byte_test bytes_test call_test parted_test is_inside only_test shared_test concerns_test own_bytes_test own_test module_test supposed_test two_applications
as_supposed = refl

-- so the theorem speaks of them
pub spoken_of : SameOutside camera (first_end two_applications side_by_side) (second_end two_applications side_by_side)
unfolding first_end second_end
spoken_of = two_runs camera list_room two_applications (laid_out side_by_side) (supposed_means camera list_room side_by_side _ _ as_supposed)
