use mathlib.Core.Path.{ap, ◌∙◌}
use Rattle.bits.specs.Choice.{either}
use Rattle.bits.proofs.Tests.{or_either}
use Rattle.pages_window.specs.Hidden.{meets_hidden}
use Rattle.pages_window.proofs.meets_hidden.Goals as goal

pub returns : goal.returns
unfolding meets_hidden
returns c = or_either _ _ ∙ ap (either _) c.meets_triggers.ensures
