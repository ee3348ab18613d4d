use mathlib.Core.Path.{◌∙◌}
use Rattle.bits.proofs.Sets.{some_of, rest_is}
use Rattle.bits.specs.Sets.{lane_count, some_in}
use Rattle.model.specs.Verdicts.{other_app_sel}
use Rattle.apply_reasons.proofs.has_other_app_sel.Goals as goal

pub returns : goal.returns
unfolding other_app_sel some_in
returns c = c.meets.ensures ∙ some_of lane_count _ _ (rest_is lane_count _ c.lanes_with_app.ensures)
