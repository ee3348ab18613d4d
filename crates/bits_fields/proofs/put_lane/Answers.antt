use Rattle.bits_fields.proofs.Fits.{field_fits}
use Rattle.bits_fields.proofs.put_lane.Goals as goal

pub put-requires : goal.put-requires
put-requires c = let s = c in field_fits s.args.base s.args.width s.args.lane _ _ c.lane_field.ensures s.requires.0 s.requires.1 s.requires.2
