use mathlib.Core.Path.{ap, ◌∙◌}
use Rattle.bits.specs.Choice.{implies}
use Rattle.bits.proofs.Tests.{or_implies}
use Rattle.sound_passing.proofs.is_copied_if_before.Goals as goal

pub returns : goal.returns
returns c = rw (c.is_in.ensures, c.is_copied-copied.ensures) (or_implies _ _ ∙ ap (implies _) (or_implies _ _))
