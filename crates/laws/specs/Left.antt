-- What a call leaves of what it was given, and what it hands back: the vocabulary of the laws of refusals and of uniqueness.
use Rattle.std.specs.Prelude.{◌≡◌, List, ℕ, length, take, drop}
use Rattle.model.specs.Outcome.{Outcome}
use Rattle.contracts.specs.declared.Returned.{Returned}
use Rattle.laws.specs.Asked.{Asked, given_state, given_buffer}

-- nothing is changed: no image byte, no lane record, no buffer byte, and no lane is to be commissioned
pub record Unchanged (q : Asked) (o : Outcome) : Type 0 where
  pub image : o.state.image ≡ (given_state q).image
  pub working : o.state.working ≡ (given_state q).working
  pub buffer : o.buffer ≡ given_buffer q
  pub mask : o.mask ≡ 0

-- the front of a buffer is replaced by n bytes, and the rest of it is left alone
pub record Fronted (n : ℕ) (bytes before after : List ℕ) : Type 0 where
  pub size : length after ≡ length before
  pub front : take n after ≡ bytes
  pub rest : drop n after ≡ drop n before

-- two ways in which a call may leave what it was lent and what it hands back are the same
pub record Same (r : Returned) (image_left buffer_left : List ℕ) (r' : Returned) (image_left' buffer_left' : List ℕ) : Type 0 where
  pub answer : r.answer ≡ r'.answer
  pub image : image_left ≡ image_left'
  pub working : r.working ≡ r'.working
  pub buffer : buffer_left ≡ buffer_left'
  pub mask : r.mask ≡ r'.mask

-- the outcome itself, handed back
unfoldable pub left_by : Outcome → Returned
left_by o = record { answer = o.answer; mask = o.mask; working = o.state.working }
