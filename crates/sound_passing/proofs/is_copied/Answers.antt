use mathlib.Core.Path.{ap, ap₂, ◌∙◌}
use Rattle.model.specs.Sound.{same_settings}
use Rattle.model.specs.Work.{written_settings}
use Rattle.sound_passing.proofs.Choices.{settings_by}
use Rattle.sound_passing.proofs.is_copied.Goals as goal

pub returns : goal.returns
returns c = c.eq.ensures
    ∙ settings_by _ _
    ∙ ap₂ same_settings c.settings_at-active.ensures (c.written.ensures ∙ ap written_settings c.held_at-held.ensures)
