use mathlib.Core.Path.{ap, sym, ◌∙◌}
use Rattle.model.specs.View.{app_sel, path_id}
use Rattle.sound_paths.proofs.Lanes.{held_of}
use Rattle.view_paths.proofs.Lanes.{app_lt, id_lt}
use Rattle.sound_paths.proofs.Wholes.{path_by}
use Rattle.sound_paths.proofs.held_path.Goals as goal

pub is_whole-requires : goal.is_whole-requires
is_whole-requires c = (rw c.app_sel-app.ensures (app_lt _), rw c.path_id-id.ensures (id_lt _))

pub returns : goal.returns
returns c = let h = c.held_at-held.ensures ∙ sym (held_of _ _ c.requires) in
    path_by _ _ _ _ _ _ _ _ _
    (c.app_sel-app.ensures ∙ ap app_sel h)
    (c.path_id-id.ensures ∙ ap path_id h)
    c.share_held.ensures
    c.is_whole.ensures
