-- What is carried from piece to piece in code, what it stands for, and what one byte leaves.
use Rattle.std.specs.Prelude.{ℕ, ◌-◌, ◌≡◌, List, [], ◌∷◌, ◌++◌, ltb, length, take}
use Rattle.bits.specs.Choice.{pick}
use Rattle.bits.specs.Loop.{tab}
use Rattle.model.specs.Map.{Image}
use Rattle.model.specs.State.{state_with}
use Rattle.model.specs.Stream as stream
use Rattle.model.specs.Stream.{Took}
use Rattle.night_text.specs.Buffer.{Puts}
use Rattle.pieces_carried.specs.declared.Carried.{Carried}
use Rattle.pieces_carried.specs.declared.Taken.{Taken}

-- room for a whole header, the longest part that is gathered
abbrev pub held_room : ℕ
held_room = 16

-- how many bytes are held: a part that is not whole lacks one at least
unfoldable pub held_count : ℕ → ℕ
held_count count = pick (ltb count held_room) count (held_room - 1)

unfoldable pub held_in : Carried → List ℕ
held_in c = take (held_count c.count) c.held

-- what stands for what is carried, with the image that is lent
unfoldable pub carried_by : Carried → Image → stream.Carried
carried_by c x = record { phase = c.phase; edition = c.edition; held = held_in c; state = state_with x c.working }

-- bytes held, and zeros after them
unfoldable pub padded : List ℕ → List ℕ
padded bytes = bytes ++ tab (held_room - length bytes) (λ i. 0)

-- what is kept of it beside the image: every byte of its room included
unfoldable pub kept : stream.Carried → Carried
kept c = record { phase = c.phase; edition = c.edition; held = padded c.held; count = length c.held; working = c.state.working }

-- nothing but zeros after the bytes that are held
abbrev pub IsTidy : Carried → Type 0
IsTidy c = c ≡ kept (carried_by c [])

-- the same is carried, with one byte more held
pub record HoldsOneMore (c : Carried) (b : ℕ) (r : Carried) : Type 0 where
  pub same : (x : Image) → r ≡ kept (stream.holding (held_in c ++ (b ∷ [])) (carried_by c x))

-- what a byte leaves: what is carried on, the image, and its text
pub record Leaves (t : Took) (at : ℕ) (before after : List ℕ) (image : Image) (r : Taken) : Type 0 where
  pub carried : r.carried ≡ kept t.carried
  pub registers : image ≡ t.carried.state.image
  pub text : Puts at t.text before after r.at

-- .. where the image is not touched, whatever it is
abbrev pub LeavesOfAny : (Image → Took) → ℕ → List ℕ → List ℕ → Taken → Type 0
LeavesOfAny t at before after r = (x : Image) → Leaves (t x) at before after x r
