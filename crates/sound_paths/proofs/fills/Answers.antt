use mathlib.Core.Path.{ap, ◌∙◌}
use Rattle.bits.specs.Choice.{both}
use Rattle.bits.proofs.Tests.{and_both}
use Rattle.model.specs.View.{fills}
use Rattle.sound_paths.proofs.fills.Goals as goal

pub returns-in-None : goal.returns-in-None
unfolding fills
returns-in-None c = rw c.in-None.is

pub returns-in-Some : goal.returns-in-Some
unfolding fills
returns-in-Some c = rw (c.in-Some.is, c.is_in.ensures, c.lanes_from-all.ensures) (and_both _ _ ∙ ap (both _) (and_both _ _))
