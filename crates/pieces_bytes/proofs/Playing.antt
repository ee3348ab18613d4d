-- Laws of a run of one record at most: over a malformed one it stands still, over another it is the step and the line. Assumes nothing.
use mathlib.Core.Path.{◌≡◌, ap, ◌∙◌}
use mathlib.Core.Bool.{true, false}
use mathlib.Core.List.{List, []}
use Prim.Native.Nat.{ℕ, ◌+◌, ◌-◌, ◌≤◌, ◌<◌}
use native.Mathlib.Omega.{arith}
use lib.ListN.{length, take}
use Rattle.bits.proofs.Tests.{split}
use Rattle.model.specs.Map.{Image}
use Rattle.model.specs.State.{state_with}
use Rattle.model.specs.Work.{early}
use Rattle.model.specs.Step.{step}
use Rattle.model.specs.Outcome.{list_room}
use Rattle.model.specs.File.{Edition, later_editions, edition_among, record_length, is_record, event_of}
use Rattle.model.specs.Stream.{played, took_record, refused}
use Rattle.model.specs.declared.answer.Answer.TheVariants.{Malformed}
use Rattle.model.specs.declared.stream.Phase.TheVariants.{InRecords}
use Rattle.night_text.specs.Buffer.{longest_line}
use Rattle.pieces_records.specs.Running.{Running, after_step, runs, running}
use Rattle.pieces_records.specs.declared.Played.{Played}
use Rattle.pieces_records.proofs.Runs.{run_stops, run_plays, plays, malformed}
use Rattle.pieces_carried.specs.Carrying.{carried_by, padded, kept, Leaves, LeavesOfAny}
use Rattle.pieces_carried.specs.declared.Carried.{Carried}
use Rattle.pieces_carried.specs.declared.Taken.{Taken}
use Rattle.pieces_bytes.proofs.Taking.{record_wrong, record_right}

module _ (c : Carried) (x left : Image) (next records at : ℕ) (bytes out after : List ℕ) (p : Played)
    (due : next < records) (there : record_length ≤ length bytes) (room : at + longest_line ≤ length out)
    (ran : running p left after ≡ runs (edition_among later_editions c.edition) (next + 1 - next) (record { taken = 0; next = next; printed = at; state = state_with x c.working; out = out }) bytes) where
  abbrev e : Edition
  e = edition_among later_editions c.edition

  -- the record
  abbrev first : List ℕ
  first = take record_length bytes

  abbrev start : Running
  start = record { taken = 0; next = next; printed = at; state = state_with x c.working; out = out }

  one : next + 1 - next ≡ 1
  one = omega arith

  stood : is_record e first ≡ false → running p left after ≡ start
  stood f = ran ∙ run_stops e start bytes _ (malformed e start bytes f)

  went : is_record e first ≡ true → running p left after ≡ after_step start (step early list_room (state_with x c.working) (event_of e first))
  unfolding runs
  went f = (rw one at ran) ∙ run_plays e start bytes 0 (plays e start bytes there room f)

  -- where it stands still, the record was malformed, and nothing has changed
  pub whole-wrong : (r : Taken) (last : List ℕ) → p.next ≡ next → LeavesOfAny (λ x. refused Malformed (carried_by c x)) at after last r
      → Leaves (took_record (carried_by c x) next records bytes) at out last left r
  unfolding after_step refused carried_by
  whole-wrong r last stays l = split (is_record e first)
      (λ f. absurd (omega (arith, ap (λ (r : Running). r.next) (went f))))
      (λ f. rw (record_wrong (carried_by c x) next records bytes due there f)
      (record { carried = (l x).carried; registers = ap (λ (r : Running). r.state.image) (stood f); text = rw (ap (λ (r : Running). r.out) (stood f)) at (l x).text }))

  -- where it has gone on, it was played
  pub whole-right : (r : Carried) → (p.next ≡ next → ⊥)
      → r ≡ record { phase = InRecords p.next records; edition = c.edition; held = padded []; count = 0; working = p.reached.working }
      → Leaves (took_record (carried_by c x) next records bytes) at out after left (record { at = p.reached.at; carried = r })
  unfolding after_step played carried_by kept
  whole-right r moved q = split (is_record e first)
      (λ t. rw (record_right (carried_by c x) next records bytes due there t)
      (record {
        carried =
            q
            ∙ (λ i. record {
              phase = InRecords (ap (λ (r : Running). r.next) (went t) i) records;
              edition = c.edition;
              held = padded [];
              count = 0;
              working = ap (λ (r : Running). r.state.working) (went t) i;
            });
        registers = ap (λ (r : Running). r.state.image) (went t);
        text = record { buffer = ap (λ (r : Running). r.out) (went t); next = ap (λ (r : Running). r.printed) (went t) };
      }))
      (λ t. absurd (moved (ap (λ (r : Running). r.next) (stood t))))
