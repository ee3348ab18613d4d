use mathlib.Core.Path.{ap₂, ◌∙◌}
use native.Mathlib.Omega.{arith}
use Rattle.bits.specs.Choice.{both}
use Rattle.bits.proofs.Loops.{any_ext}
use Rattle.bits.proofs.Sets.{in_set, has_rest}
use Rattle.bits.specs.Sets.{lane_count, some_in}
use Rattle.model.specs.Verdicts.{incomplete}
use Rattle.apply_reasons.proofs.is_incomplete.Goals as goal

pub returns : goal.returns
unfolding incomplete some_in
returns c = c.meets.ensures
    ∙ any_ext lane_count _ _ (λ m h. ap₂ both (in_set lane_count _ c.lanes_from-taken.ensures m h) (has_rest lane_count _ m (omega arith) h))
