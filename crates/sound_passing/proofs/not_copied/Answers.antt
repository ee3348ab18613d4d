use native.Mathlib.Omega.{arith}
use mathlib.Core.Path.{sym, ◌∙◌}
use Rattle.bits.specs.Sets.{has, lane_count}
use Rattle.bits.proofs.Masks.{mask_ext, mask-of-has}
use Rattle.bits.proofs.Sets.{and_is, rest_is}
use Rattle.bits.proofs.Tests.{not-ltb}
use Rattle.model.specs.Sound.{not_copied}
use Rattle.sound_passing.proofs.not_copied.Goals as goal

pub returns : goal.returns
unfolding not_copied
returns c = let g = c.args.group in
    and_is lane_count (has g) _ (sym (mask-of-has lane_count g (omega arith))) (rest_is lane_count _ c.lanes_below.ensures)
    ∙ mask_ext lane_count _ _ (λ m h. rw not-ltb)
