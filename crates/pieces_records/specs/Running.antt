-- A run over records that lie whole in a row of bytes: one after the other, while the output has room for a longest line, up to one that is malformed.
use Rattle.std.specs.Prelude.{ℕ, zero, suc, ◌+◌, Bool, List, leb, length, take, drop}
use Rattle.bits.specs.Choice.{pick, both}
use Rattle.model.specs.Map.{Image}
use Rattle.model.specs.Answers.{number}
use Rattle.model.specs.State.{State, state_with}
use Rattle.model.specs.Work.{early}
use Rattle.model.specs.Step.{Stepped, step}
use Rattle.model.specs.Outcome.{list_room}
use Rattle.model.specs.File.{Edition, record_length, is_record, event_of}
use Rattle.model.specs.Text.{line}
use Rattle.night_text.specs.Buffer.{laid_at, longest_line}
use Rattle.pieces_records.specs.declared.Played.{Played}

-- where a run stands: the bytes taken, the next record's index, the bytes printed, the module's state, and the output
pub record Running : Type 0 where
  pub taken : ℕ
  pub next : ℕ
  pub printed : ℕ
  pub state : State
  pub out : List ℕ

-- the next record's bytes
abbrev pub record_at : ℕ → List ℕ → List ℕ
record_at taken bytes = take record_length (drop taken bytes)

-- they are there, the output has room for a longest line, and they are a record of the edition
unfoldable pub can_play : Edition → Running → List ℕ → Bool
can_play e r bytes =
    both (both (leb (r.taken + record_length) (length bytes)) (leb (r.printed + longest_line) (length r.out))) (is_record e (record_at r.taken bytes))

-- a step and its line
unfoldable pub after_step : Running → Stepped → Running
after_step r o =
    record {
      taken = r.taken + record_length;
      next = suc r.next;
      printed = r.printed + length (line r.next (number o.answer) o.bytes);
      state = o.state;
      out = laid_at r.printed (line r.next (number o.answer) o.bytes) r.out;
    }

abbrev pub after_record : Edition → Running → List ℕ → Running
after_record e r bytes = after_step r (step early list_room r.state (event_of e (record_at r.taken bytes)))

-- at most n records
unfoldable pub runs : Edition → ℕ → Running → List ℕ → Running
runs e zero r bytes = r
runs e (suc n) r bytes = pick (can_play e r bytes) (runs e n (after_record e r bytes) bytes) r

-- where the code stands, with the image and the output that are lent
abbrev pub running : Played → Image → List ℕ → Running
running p x out = record { taken = p.taken; next = p.next; printed = p.reached.at; state = state_with x p.reached.working; out = out }
