use mathlib.Core.Path.{sym, ap, ◌∙◌}
use Rattle.bits.specs.Choice.{both}
use Rattle.bits.proofs.Loops.{any_ext}
use Rattle.bits.specs.Sets.{some_in}
use Rattle.model.specs.Hardware.{some_bit}
use Rattle.bits.proofs.Sets.{bit-has}
use Rattle.hardware_signals.proofs.some_bit.Goals as goal

pub returns : goal.returns
unfolding some_bit some_in
returns c = c.meets.ensures ∙ any_ext 8 _ _ (λ m h. ap (both _) (sym (bit-has _ _ m h)))
