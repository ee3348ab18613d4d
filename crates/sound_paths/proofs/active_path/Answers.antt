use Rattle.view_paths.proofs.Lanes.{app_lt, id_lt}
use Rattle.sound_paths.proofs.Wholes.{path_by}
use Rattle.sound_paths.proofs.active_path.Goals as goal

pub is_whole-requires : goal.is_whole-requires
is_whole-requires c = (rw c.app_at-app.ensures (app_lt _), rw c.id_at-id.ensures (id_lt _))

pub returns : goal.returns
returns c = path_by _ _ _ _ _ _ _ _ _ c.app_at-app.ensures c.id_at-id.ensures c.share_active.ensures c.is_whole.ensures
