use mathlib.Core.Path.{ap, ◌∙◌}
use Rattle.bits.specs.Number.{field}
use Rattle.model.specs.View.{path_id}
use Rattle.view_paths.proofs.Lanes.{config_of}
use Rattle.view_paths.proofs.id_at.Goals as goal

pub returns : goal.returns
unfolding path_id
returns c = let h = c.requires.1 in c.take_field.ensures ∙ ap (λ b. field b 1 3) (c.lane_byte.ensures ∙ config_of _ _ _ h)
