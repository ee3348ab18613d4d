use mathlib.Core.Path.{ap₂, ◌∙◌}
use Rattle.bits.specs.Choice.{implies}
use Rattle.bits.proofs.Tests.{or_implies}
use Rattle.sound.proofs.Conditions.{flag_by}
use Rattle.sound.proofs.is_raised_if_on.Goals as goal

pub returns : goal.returns
returns c = or_implies _ _
    ∙ ap₂ implies c.is_on.ensures (flag_by _ _ _ _ _ _ c.lasting_flag-flag.ensures c.on.ensures c.lane_bit-raised.ensures)
