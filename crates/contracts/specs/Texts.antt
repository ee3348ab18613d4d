-- A text into a lent buffer, and the one form of contract over it.
use Rattle.std.specs.Prelude.{ℕ, ◌^◌, ◌-◌, ◌≡◌, List, ltb, length, Option, None, Some}
use Rattle.bits.specs.Choice.{pick}
use Rattle.model.specs.Outcome.{laid_over}

-- a buffer without the room is as it was; else the text lies over its front, and the answer counts its bytes
unfoldable pub answer_for : ℕ → List ℕ → List ℕ → Option ℕ
answer_for room text buffer = pick (ltb (length buffer) room) None (Some (length text))

unfoldable pub left_in : ℕ → List ℕ → List ℕ → List ℕ
left_in room text buffer = pick (ltb (length buffer) room) buffer (laid_over text buffer)

-- THE CONTRACT of every call that prints: what it handed back is the answer, in the form in which it shows it, and the buffer as it left it is the text's
pub record GivesAs {A : Type 0} (shown : Option ℕ → A) (room : ℕ) (text before after : List ℕ) (r : A) : Type 0 where
  pub answer : r ≡ shown (answer_for room text before)
  pub buffer : after ≡ left_in room text before

-- the answer itself is handed back
abbrev pub Gives : ℕ → List ℕ → List ℕ → List ℕ → Option ℕ → Type 0
Gives room text before after r = GivesAs (λ a. a) room text before after r

-- the answer as a number: the count, or the largest number for a short buffer
unfoldable pub count_of : Option ℕ → ℕ
count_of None = 2 ^ 64 - 1
count_of (Some n) = n

-- the number is handed back
abbrev pub GivesCount : ℕ → List ℕ → List ℕ → List ℕ → ℕ → Type 0
GivesCount room text before after r = GivesAs count_of room text before after r

-- two ways in which a call that prints may answer and leave its buffer are the same
pub record SameText {A : Type 0} (r : A) (buffer_left : List ℕ) (r' : A) (buffer_left' : List ℕ) : Type 0 where
  pub answer : r ≡ r'
  pub buffer : buffer_left ≡ buffer_left'
