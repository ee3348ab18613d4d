-- What a call of firmware leaves: a call of the registers whose working state stands in a lent buffer, and whose answer and mask are one number.
use Rattle.std.specs.Prelude.{◌≡◌, true, List, [], ◌∷◌, ◌++◌, ℕ, ◌+◌, ◌*◌, ltb, length}
use Rattle.bits.specs.Choice.{pick}
use Rattle.bits.specs.Sets.{LaneSet}
use Rattle.model.specs.Numbers.{Bytes, Count}
use Rattle.model.specs.Map.{Image}
use Rattle.model.specs.Answers.{number, is_done}
use Rattle.model.specs.State.{state_with}
use Rattle.model.specs.Refusals.{Refusal, refuse, first_of, image_refusals, start_refusals}
use Rattle.model.specs.Outcome.{Outcome, laid_over, start_outcome, call_outcome}
use Rattle.model.specs.declared.answer.Answer.{Answer}
use Rattle.model.specs.declared.answer.Answer.TheVariants.{Unsound, ShortBuffer}
use Rattle.model.specs.declared.event.Event.{Event}
use Rattle.packing.specs.Packing.{state_length, packed, unpacked, is_packing}

-- the number that is handed back, every image byte, every byte of the state's buffer, every byte of a read's
pub record Left : Type 0 where
  pub returned : ℕ
  pub image : Image
  pub state : Bytes
  pub buffer : Bytes

-- the answer's number in bits 7-0, the lanes to be commissioned in bits 15-8
unfoldable pub returned_for : Answer → LaneSet → ℕ
returned_for a mask = mask * 256 + number a

-- an outcome whose working state is laid over the front of a buffer
unfoldable pub left_by : Bytes → Outcome → Left
left_by state o =
    record {
      returned = returned_for o.answer o.mask;
      image = o.state.image;
      state = laid_over (packed o.state.working) state;
      buffer = o.buffer;
    }

-- a refusal changes nothing
unfoldable pub left_refused : Answer → Image → Bytes → Bytes → Left
left_refused a x state buffer = record { returned = returned_for a 0; image = x; state = state; buffer = buffer }

-- ---- start: 1, 2 and 10, and then 5 where the buffer has no room for a working state

unfoldable pub door_start_refusals : Image → Count → List Refusal
door_start_refusals x room = start_refusals x ++ (refuse ShortBuffer (ltb room state_length) ∷ [])

unfoldable pub door_start_by : Answer → Image → Bytes → Left
door_start_by a x state = pick (is_done a) (left_by state (start_outcome x)) (left_refused a x state [])

unfoldable pub door_start : Image → Bytes → Left
door_start x state = door_start_by (first_of (door_start_refusals x (length state))) x state

-- ---- a call: bytes that are no working state's are a state that is not sound

unfoldable pub strange_refusals : Image → List Refusal
strange_refusals x = image_refusals x ++ (refuse Unsound true ∷ [])

unfoldable pub door_outcome : Image → Bytes → Bytes → Event → Left
door_outcome x state buffer e =
    pick (is_packing state)
    (left_by state (call_outcome (state_with x (unpacked state)) buffer e))
    (left_refused (first_of (strange_refusals x)) x state buffer)

-- ---- THE CONTRACT of every call of firmware: the number that it handed back, and its slices as it left them, are what is left
pub record IsLeft (o : Left) (r : ℕ) (image_left state_left buffer_left : Bytes) : Type 0 where
  pub returned : r ≡ o.returned
  pub image : image_left ≡ o.image
  pub state : state_left ≡ o.state
  pub buffer : buffer_left ≡ o.buffer
