-- THE PROMISES about firmware's calls: from a start on they give what the same calls of the registers give, and a refused one changes nothing.
use Rattle.std.specs.Prelude.{◌≡◌, List, [], ◌∷◌, map, ◌%◌}
use Rattle.model.specs.Numbers.{Bytes}
use Rattle.model.specs.Map.{Image}
use Rattle.model.specs.Outcome.{start_outcome}
use Rattle.model.specs.declared.answer.Answer.{Answer}
use Rattle.laws.specs.Calls.{Called, outcomes}
use Rattle.door_answers.specs.Door.{Left, returned_for, left_by, door_start, door_outcome}

-- what calls of firmware leave, each on the image and the state's buffer that the one before it left
unfoldable pub door_run : Image → Bytes → List Called → List Left
door_run x state [] = []
door_run x state (c ∷ cs) =
    door_outcome x state c.buffer c.event
    ∷ door_run (door_outcome x state c.buffer c.event).image (door_outcome x state c.buffer c.event).state cs

-- a start of firmware that is done: it hands back 0
abbrev pub Started : Image → Bytes → Type 0
Started x state = (door_start x state).returned ≡ 0

-- start, and then any calls: each leaves the outcome of the same call of the registers, its working state packed in the front of the buffer that start was lent,
-- and what lies behind it as it was there
pub record SameThrough (x : Image) (state : Bytes) (cs : List Called) : Type 0 where
  pub start : door_start x state ≡ left_by state (start_outcome x)
  pub calls : door_run (door_start x state).image (door_start x state).state cs ≡ map (left_by state) (outcomes (start_outcome x).state cs)

-- a call whose answer is a number other than 0
abbrev pub Refused : Left → Type 0
Refused o = o.returned % 256 ≡ 0 → ⊥

-- nothing is changed: no image byte, no byte of the state's buffer, no byte of a read's; and no lane is to be commissioned
pub record NothingChanged (x : Image) (kept lent : Bytes) (o : Left) : Type 0 where
  pub image : o.image ≡ x
  pub state : o.state ≡ kept
  pub buffer : o.buffer ≡ lent
  pub no_lanes : (a : Answer) × (o.returned ≡ returned_for a 0)
