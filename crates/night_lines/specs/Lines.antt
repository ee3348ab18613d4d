-- A record's turn: how many bytes its line shows, and what it leaves.
use Rattle.std.specs.Prelude.{ℕ, ◌≡◌, List, eqb}
use Rattle.bits.specs.Choice.{pick}
use Rattle.model.specs.Map.{Image}
use Rattle.model.specs.Answers.{number}
use Rattle.model.specs.Step.{read_count, Stepped}
use Rattle.model.specs.Outcome.{laid_over}
use Rattle.model.specs.Text.{line}
use Rattle.model.specs.declared.event.Call.{Call}
use Rattle.night_text.specs.Buffer.{Puts}
use Rattle.night_lines.specs.declared.Reached.{Reached}

-- how many bytes a call shows, by its answer's number
unfoldable pub shown_by : ℕ → Call → ℕ
shown_by answer call = pick (eqb answer 0) (read_count call) 0

-- what a record's turn leaves: the state, the bytes read, and its line
pub record Turns (o : Stepped) (k at : ℕ) (buffer buffer_left before after : List ℕ) (image : Image) (r : Reached) : Type 0 where
  pub registers : image ≡ o.state.image
  pub lanes : r.working ≡ o.state.working
  pub bytes : buffer_left ≡ laid_over o.bytes buffer
  pub text : Puts at (line k (number o.answer) o.bytes) before after r.at
