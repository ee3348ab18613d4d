use mathlib.Core.Path.{ap, ◌∙◌}
use Rattle.bits.specs.Number.{field}
use Rattle.model.specs.View.{app_sel}
use Rattle.view_paths.proofs.Lanes.{config_of}
use Rattle.view_paths.proofs.app_at.Goals as goal

pub returns : goal.returns
unfolding app_sel
returns c = let h = c.requires.1 in c.take_field.ensures ∙ ap (λ b. field b 4 4) (c.lane_byte.ensures ∙ config_of _ _ _ h)
