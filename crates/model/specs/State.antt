-- The module's state: its registers and what it keeps beside them (01 "The module we ship").
use Rattle.model.specs.Map.{Image}
use Rattle.model.specs.declared.lane.Working.{Working}

pub record State : Type 0 where
  pub image : Image
  pub working : Working

abbrev pub state_with : Image → Working → State
state_with x w = record { image = x; working = w }

-- the state with another image
abbrev pub with_image : State → Image → State
with_image s x = record { image = x; working = s.working }
