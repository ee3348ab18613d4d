use Rattle.model.specs.Power.{is_flagged}
use Rattle.power_moves.proofs.is_flagged.Goals as goal

pub returns-in-Other : goal.returns-in-Other
unfolding is_flagged
returns-in-Other c = rw c.in-Other.is

pub returns-in-LowPwr : goal.returns-in-LowPwr
unfolding is_flagged
returns-in-LowPwr c = rw c.in-LowPwr.is

pub returns-in-PwrUp : goal.returns-in-PwrUp
unfolding is_flagged
returns-in-PwrUp c = rw c.in-PwrUp.is

pub returns-in-Ready : goal.returns-in-Ready
unfolding is_flagged
returns-in-Ready c = rw c.in-Ready.is

pub returns-in-PwrDn : goal.returns-in-PwrDn
unfolding is_flagged
returns-in-PwrDn c = rw c.in-PwrDn.is
