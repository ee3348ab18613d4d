use Rattle.hardware_paths.proofs.Lowest.{side_by_side_lem}
use Rattle.hardware_paths.proofs.gather.Goals as goal

pub returns : goal.returns
returns c = side_by_side_lem c.args.lanes c.requires
