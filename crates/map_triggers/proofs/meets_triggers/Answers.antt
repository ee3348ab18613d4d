use mathlib.Core.Path.{ap₂, ◌∙◌}
use Rattle.bits.specs.Choice.{either}
use Rattle.bits.proofs.Tests.{and_both, or_either}
use Rattle.map_triggers.specs.Meets.{meets_triggers}
use Rattle.map_triggers.proofs.meets_triggers.Goals as goal

pub returns : goal.returns
unfolding meets_triggers
returns c = or_either _ _ ∙ ap₂ either (and_both _ _) (and_both _ _)
