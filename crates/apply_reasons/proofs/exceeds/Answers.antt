use mathlib.Core.Path.{sym, ◌∙◌}
use Rattle.bits.specs.Choice.{both}
use Rattle.apply_reasons.proofs.exceeds.Goals as goal

pub returns-then-is_in : goal.returns-then-is_in
unfolding both
returns-then-is_in c = rw (sym c.is_in.ensures ∙ c.if-is_in.true, both) c.is_out_of_limits.ensures

pub returns-else-is_in : goal.returns-else-is_in
unfolding both
returns-else-is_in c = rw (sym c.is_in.ensures ∙ c.if-is_in.false, both) c.if-is_in.false
