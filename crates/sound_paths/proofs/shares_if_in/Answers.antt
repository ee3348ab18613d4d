use mathlib.Core.Path.{ap, ◌∙◌}
use Rattle.bits.specs.Choice.{implies}
use Rattle.bits.proofs.Tests.{and_both, or_implies}
use Rattle.sound_paths.proofs.shares_if_in.Goals as goal

pub returns : goal.returns
returns c = rw
    (c.is_in.ensures, c.app_sel.ensures, c.path_id.ensures, c.held_at-held.ensures)
    (or_implies _ _ ∙ ap (implies _) (and_both _ _))
