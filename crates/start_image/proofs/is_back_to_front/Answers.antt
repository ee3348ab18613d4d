use mathlib.Core.Path.{ap, ◌∙◌}
use Rattle.bits.specs.Choice.{either}
use Rattle.bits.proofs.Tests.{or_either}
use Rattle.model.specs.Refusals.{is_back_to_front}
use Rattle.start_image.proofs.is_back_to_front.Goals as goal

pub returns : goal.returns
unfolding is_back_to_front
returns c = rw (c.word2-low_alarm.ensures, c.word2-low_warning.ensures, c.word2-high_warning.ensures, c.word2-high_alarm.ensures)
    (or_either _ _ ∙ ap (either _) (or_either _ _))
