use mathlib.Core.Path.{ap, ◌∙◌}
use Rattle.view_settings.specs.Parts.{with_part}
use Rattle.view_settings.proofs.Parts.{whole}
use Rattle.view_settings.proofs.put_settings.Goals as goal

pub returns : goal.returns
returns c = c.put_rest.ensures ∙ ap (with_part 4 4 _ _) c.put_first.ensures ∙ whole _ _ _
