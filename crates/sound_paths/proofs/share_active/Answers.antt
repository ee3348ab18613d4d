use mathlib.Core.Path.{◌∙◌}
use Rattle.bits.proofs.Sets.{every_of, and_is}
use Rattle.bits.specs.Sets.{lane_count, every_in}
use Rattle.sound_paths.proofs.Wholes.{share_by}
use Rattle.sound_paths.proofs.share_active.Goals as goal

pub returns : goal.returns
unfolding every_in
returns c = share_by _ _ _ _ _ _ c.app_at-app.ensures c.id_at-id.ensures
    (c.lies_in.ensures ∙ every_of lane_count _ _ (and_is lane_count _ _ c.lanes_with_app-with_app.ensures c.lanes_with_id-with_id.ensures))
