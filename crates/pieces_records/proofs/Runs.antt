-- Laws of a run over records: where it stops, one record more, and what the code's tests say of it. Assumes nothing.
use mathlib.Core.Path.{◌≡◌, refl, sym, ap, ◌∙◌}
use mathlib.Core.Bool.{true, false}
use mathlib.Core.List.{List}
use Prim.Native.Nat.{ℕ, zero, suc, ◌+◌, ◌-◌, ◌≤◌, ◌<◌}
use native.Mathlib.Numerals.{add-one}
use native.Mathlib.Omega.{arith}
use lib.ListN.{length, take, drop, length-drop}
use lib.Seq.{length-take-le, take_all}
use borrow.Author.Tests.{le-leb, lt-leb}
use Rattle.bits.proofs.Tests.{both_i, pick_true, pick-false}
use Rattle.model.specs.Map.{Image}
use Rattle.model.specs.State.{state_with}
use Rattle.model.specs.Work.{early}
use Rattle.model.specs.Step.{step}
use Rattle.model.specs.Outcome.{list_room}
use Rattle.model.specs.File.{Edition, record_length, is_record, event_of}
use Rattle.night_records.proofs.Records.{both_left, both_right}
use Rattle.night_lines.specs.Lines.{Turns}
use Rattle.night_lines.specs.declared.Reached.{Reached}
use Rattle.pieces_records.specs.Running.{Running, record_at, can_play, after_step, after_record, runs, running}
use Rattle.pieces_records.specs.declared.Played.{Played}
use Rattle.night_text.specs.Buffer.{longest_line}

pub record_length_lem : (taken : ℕ) (bytes : List ℕ) → taken + record_length ≤ length bytes → length (record_at taken bytes) ≡ record_length
record_length_lem taken bytes h = length-take-le record_length (drop taken bytes) (omega (arith, length-drop taken bytes))

module _ (e : Edition) (r : Running) (bytes : List ℕ) where
  -- a run stops at what cannot be played
  pub run_stops : (n : ℕ) → can_play e r bytes ≡ false → runs e n r bytes ≡ r
  unfolding runs
  run_stops zero t = refl
  run_stops (suc n) t = pick-false _ _ t

  -- and goes on over what can
  pub run_plays : (n : ℕ) → can_play e r bytes ≡ true → runs e (suc n) r bytes ≡ runs e n (after_record e r bytes) bytes
  unfolding runs
  run_plays n t = pick_true _ _ t

  -- ---- the tests

  pub lacks-bytes : length bytes < r.taken + record_length → can_play e r bytes ≡ false
  unfolding can_play
  lacks-bytes h = both_left _ _ (both_left _ _ (lt-leb (r.taken + record_length) (length bytes) h))

  pub lacks-room : length r.out < r.printed + longest_line → can_play e r bytes ≡ false
  unfolding can_play
  lacks-room h = both_left _ _ (both_right _ _ (lt-leb (r.printed + longest_line) (length r.out) h))

  pub plays : r.taken + record_length ≤ length bytes → r.printed + longest_line ≤ length r.out → is_record e (record_at r.taken bytes) ≡ true → can_play e r bytes ≡ true
  unfolding can_play
  plays there room good = both_i (both_i (le-leb _ _ there) (le-leb _ _ room)) good

  pub malformed : is_record e (record_at r.taken bytes) ≡ false → can_play e r bytes ≡ false
  unfolding can_play
  malformed f = both_right _ _ f

-- a record's turn is its step and its line
pub after_turn : (e : Edition) (p : Played) (next : ℕ) (r : Reached) (x left : Image) (buffer buffer_left out after bytes : List ℕ) → p.next ≡ next
    → Turns (step early list_room (state_with x p.reached.working) (event_of e bytes)) next p.reached.at buffer buffer_left out after left r
    → after_step (running p x out) (step early list_room (state_with x p.reached.working) (event_of e bytes))
    ≡ running (record { taken = p.taken + record_length; next = next + 1; reached = r }) left after
unfolding after_step
after_turn e p next r x left buffer buffer_left out after bytes stands t =
    rw stands
    (λ i. record {
      taken = p.taken + record_length;
      next = sym (add-one next) i;
      printed = sym t.text.next i;
      state = state_with (sym t.registers i) (sym t.lanes i);
      out = sym t.text.buffer i;
    })

-- the bytes from the next record on, which are lent
module _ (taken : ℕ) (bytes : List ℕ) where
  abbrev rest : List ℕ
  rest = take (length bytes - taken) (drop taken bytes)

  rest_all : rest ≡ drop taken bytes
  rest_all = take_all (length bytes - taken) (drop taken bytes) (omega (arith, length-drop taken bytes))

  pub rest-length : length rest ≡ length bytes - taken
  rest-length = ap length rest_all ∙ length-drop taken bytes

  pub rest-record : (chunk : List ℕ) → chunk ≡ take record_length rest → chunk ≡ record_at taken bytes
  rest-record chunk e = e ∙ ap (take record_length) rest_all
