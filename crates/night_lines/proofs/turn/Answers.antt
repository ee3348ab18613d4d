use native.Mathlib.Omega.{arith}
use mathlib.Core.Path.{◌≡◌, ap, ◌∙◌}
use mathlib.Core.List.{List}
use Prim.Native.Nat.{ℕ}
use lib.ListN.{length}
use Rattle.model.specs.Answers.{number}
use Rattle.model.specs.Work.{early}
use Rattle.model.specs.Step.{read_count, step}
use Rattle.model.specs.State.{State, state_with}
use Rattle.model.specs.Outcome.{list_room, step_outcome}
use Rattle.contracts.specs.Forms.{IsOutcome}
use Rattle.model.specs.File.{later_editions, edition_among, event_of}
use Rattle.contracts.specs.declared.Returned.{Returned}
use Rattle.model.specs.declared.event.Event.{Event}
use lib.Dec.{eqb}
use Rattle.bits.specs.Choice.{pick}
use Rattle.night_lines.specs.Lines.{shown_by}
use Rattle.night_lines.proofs.ReadBytes.{shown_most, shown_line, shown_fits}
use Rattle.model.specs.Access.{read_limit}
use Rattle.night_lines.proofs.turn.Goals as goal

-- what the step left, with the event of the record and the room of a read
stepped : (s : State) (d e : Event) (buffer : List ℕ) {image left : List ℕ} {r : Returned} → d ≡ e → length buffer ≡ read_limit
    → IsOutcome (step_outcome (step early (length buffer) s d) buffer) r image left
    → IsOutcome (step_outcome (step early list_room s e) buffer) r image left
stepped s d e buffer p q l = rw (p, q) at l

-- how many bytes are shown, with the event of the record
shown_count : (answer : ℕ) {count asked : ℕ} (d e : Event) → count ≡ pick (eqb answer 0) asked 0 → asked ≡ read_count d.call → d ≡ e → count ≡ shown_by answer e.call
unfolding shown_by
shown_count answer d e p q r = p ∙ rw (q, r)

pub put_line-at-requires : goal.put_line-at-requires
unfolding step_outcome
put_line-at-requires c = let a = c.args in
    let s = state_with a.image.now a.reached.working in
    let e = event_of (edition_among later_editions a.edition) a.bytes.now in
    let l = stepped s _ e a.buffer.now c.event_of-event.ensures (omega arith) c.step-left.ensures in
    let n = c.from-number.ensures ∙ ap number l.answer in
    let m = shown_count c.from-number.result _ e c.shown-count.ensures c.read_count-asked.ensures c.event_of-event.ensures in (
      omega (arith, shown_most s e _ _ _ _ l.buffer n m),
      shown_fits s e _ _ _ _ l.buffer n m a.index a.reached.at (length a.out.now) (omega arith),
    )

pub returns : goal.returns
unfolding step_outcome
returns c = let a = c.args in
    let s = state_with a.image.now a.reached.working in
    let e = event_of (edition_among later_editions a.edition) a.bytes.now in
    let l = stepped s _ e a.buffer.now c.event_of-event.ensures (omega arith) c.step-left.ensures in
    let n = c.from-number.ensures ∙ ap number l.answer in
    let m = shown_count c.from-number.result _ e c.shown-count.ensures c.read_count-asked.ensures c.event_of-event.ensures in
    record {
      registers = l.image;
      lanes = l.working;
      bytes = l.buffer;
      text = rw (shown_line s e _ _ _ _ l.buffer n m a.index) at c.put_line-at.ensures;
    }
