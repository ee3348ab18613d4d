use Rattle.model.specs.Sound.{status_tells}
use Rattle.sound.proofs.Conditions.{same_by}
use Rattle.sound.proofs.status_tells.Goals as goal

pub returns : goal.returns
unfolding status_tells
returns c = rw (c.nibble-told.ensures, c.is_in_progress-kept.ensures, c.stage_at.ensures) (same_by _ _)
