-- A line in a lent buffer.
use Rattle.std.specs.Prelude.{ℕ, ◌+◌, ◌≡◌, List, length}
use Rattle.night_text.specs.Buffer.{laid_at}
use Rattle.night_text.specs.declared.Line.{Line}

-- a text more: it stands in the same buffer from where the line ended, and the line ends behind it
pub record Adds (text : List ℕ) (before after : Line) : Type 0 where
  pub buffer : after.out.now ≡ laid_at before.at text before.out.now
  pub kept : length after.out.now ≡ length before.out.now
  pub next : after.at ≡ before.at + length text
  pub same : after.out.ghost_name ≡ before.out.ghost_name
