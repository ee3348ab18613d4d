use Rattle.bits.proofs.Sets.{rest_is}
use Rattle.bits.specs.Sets.{lane_count}
use Rattle.model.specs.View.{is_used}
use Rattle.view_paths.proofs.used_lanes.Goals as goal

pub returns : goal.returns
unfolding is_used
returns c = rest_is lane_count _ c.lanes_with_app.ensures
