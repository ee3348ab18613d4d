use Rattle.bits.proofs.Tests.{or_either}
use Rattle.model.specs.View.{view_of}
use Rattle.model.specs.Verdicts.{wrong_state}
use Rattle.apply_reasons.proofs.is_wrong_state.Goals as goal

pub returns : goal.returns
unfolding wrong_state view_of
returns c = rw (
  c.is_resting.ensures,
  c.from-state.ensures,
  c.state_of.ensures,
  c.is_too_late.ensures,
)
    (or_either _ _)
