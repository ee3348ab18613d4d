use mathlib.Core.Path.{sym, ap, ◌∙◌}
use Rattle.model.specs.View.{limits_of}
use Rattle.model.specs.Verdicts.{out_of_limits}
use Rattle.view_settings.proofs.View.{settings-of}
use Rattle.apply_reasons.proofs.Laws.{limits_by}
use Rattle.apply_reasons.proofs.is_out_of_limits.Goals as goal

pub returns : goal.returns
returns c = limits_by _ _ _ _ _ _ _ _
    c.take_field.ensures
    c.take_field-2.ensures c.take_field-3.ensures
    c.take_field-4.ensures c.is_refused-amplitude.ensures c.explicit.ensures
    ∙ ap
    (out_of_limits (limits_of _))
    (c.settings_at-h.ensures ∙ sym (settings-of _ _ _ c.requires.1))
