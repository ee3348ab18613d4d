use Rattle.std.specs.Option.{unwrap_or}
use mathlib.Core.Path.{ap, ◌∙◌}
use Rattle.model.specs.Map.{page00}
use Rattle.model.specs.Pages.{selected_start}
use Rattle.pages.proofs.selected_start.Goals as goal

pub returns : goal.returns
unfolding selected_start
returns c = c.unwrap_or.ensures ∙ ap (λ place. unwrap_or place page00) c.page_start.ensures
