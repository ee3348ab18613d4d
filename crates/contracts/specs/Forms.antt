-- The forms of contracts over what the model says: all that a call hands back and leaves is an outcome, or a part of it a state or an effect.
use Rattle.std.specs.Prelude.{◌≡◌}
use Rattle.model.specs.Numbers.{Bytes}
use Rattle.model.specs.Map.{Image}
use Rattle.model.specs.State.{State}
use Rattle.model.specs.Outcome.{Outcome}
use Rattle.model.specs.declared.lane.Working.{Working}
use Rattle.contracts.specs.declared.Returned.{Returned}

-- THE CONTRACT of every public call: what it handed back, and the image and the buffer as it left them, are the outcome
pub record IsOutcome (o : Outcome) (r : Returned) (image_left buffer_left : Bytes) : Type 0 where
  pub answer : r.answer ≡ o.answer
  pub image : image_left ≡ o.state.image
  pub working : r.working ≡ o.state.working
  pub buffer : buffer_left ≡ o.buffer
  pub mask : r.mask ≡ o.mask

-- the contract of a part of a call: the image as it left it and the working state that it handed back are a state's
pub record IsState (s : State) (image_left : Image) (handed_back : Working) : Type 0 where
  pub image : image_left ≡ s.image
  pub working : handed_back ≡ s.working
