use mathlib.Core.Path.{ap, ◌∙◌}
use Rattle.bits.specs.Choice.{either}
use Rattle.bits.proofs.Sets.{some_of, rest_is}
use Rattle.bits.proofs.Tests.{or_either}
use Rattle.bits.specs.Sets.{lane_count, some_in}
use Rattle.model.specs.Verdicts.{misplaced}
use Rattle.apply_reasons.proofs.is_misplaced.Goals as goal

pub returns : goal.returns
unfolding misplaced some_in
returns c = let outside = c.meets-outside.ensures ∙ some_of lane_count _ _ (rest_is lane_count _ c.lanes_from.ensures) in
    rw c.is_in.ensures (or_either _ _ ∙ ap (either _) (or_either _ _ ∙ ap (either _) outside))
