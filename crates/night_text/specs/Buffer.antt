-- Bytes laid into a buffer: the one form in which every function of this crate says what it leaves.
use Rattle.std.specs.Prelude.{ℕ, ◌+◌, ◌≡◌, List, ◌++◌, length, take, drop}

-- bytes laid into a buffer from a position on, the rest of it untouched
unfoldable pub laid_at : ℕ → List ℕ → List ℕ → List ℕ
laid_at at bytes buffer = take at buffer ++ bytes ++ drop (at + length bytes) buffer

-- what a put leaves: its text from a position on, and the position after it
pub record Puts (at : ℕ) (text before after : List ℕ) (r : ℕ) : Type 0 where
  pub buffer : after ≡ laid_at at text before
  pub next : r ≡ at + length text

-- the longest line of a record whose index has so many digits: these, a space, a digit, 128 bytes of three characters each, the line's end
abbrev pub line_room : ℕ → ℕ
line_room digits = digits + 387

-- the longest line of any record: an index has at most ten digits
abbrev pub longest_line : ℕ
longest_line = line_room 10
