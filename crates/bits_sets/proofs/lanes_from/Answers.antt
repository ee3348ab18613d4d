use mathlib.Core.Path.{◌∙◌}
use Rattle.bits.proofs.Masks.{mask_ext}
use Rattle.bits.proofs.Sets.{and_is, rest_is}
use Rattle.bits.proofs.Tests.{not-ltb}
use Rattle.bits.specs.Sets.{lane_count, within}
use Rattle.bits_sets.proofs.lanes_from.Goals as goal

pub returns : goal.returns
unfolding within
returns c = and_is lane_count _ _ (rest_is lane_count _ c.lanes_below.ensures) c.lanes_below-2.ensures
    ∙ mask_ext lane_count _ _ (λ m h. rw not-ltb)
