-- Laws of what a step shows: a read that is done shows its count of bytes, never more than fit a read; any other event shows none. Assumes nothing.
use mathlib.Core.Path.{◌≡◌, refl, sym, ap, ◌∙◌}
use mathlib.Core.Bool.{Bool, true, false}
use mathlib.Core.List.{List, [], ◌∷◌}
use mathlib.Core.Logic.{inl, inr}
use Prim.Native.Nat.{ℕ, ◌+◌, ◌≤◌, ◌<◌}
use native.Mathlib.Omega.{arith}
use lib.ListN.{length, take, drop}
use lib.Seq.{take_at}
use borrow.Author.Tests.{ltb-false}
use Rattle.night_text.specs.Buffer.{line_room}
use Rattle.bits.specs.Choice.{pick}
use Rattle.bits.proofs.Tests.{split, clash, either_l, either_r, pick_true, pick-false}
use Rattle.model.specs.Answers.{number, is_done}
use Rattle.model.specs.State.{State}
use Rattle.model.specs.Work.{early}
use Rattle.model.specs.Access.{is_bad_access, read_limit}
use Rattle.model.specs.Refusals.{Refusal, refuse, first_of, event_refusals}
use Rattle.model.specs.Step.{read_count, done_step, refused_step, answered_step, step}
use Rattle.model.specs.Outcome.{laid_over, list_room}
use Rattle.model.specs.Text.{decimal, line}
use Rattle.model.specs.declared.answer.Answer.{Answer}
use Rattle.model.specs.declared.event.Call.{Call}
use Rattle.model.specs.declared.event.Call.TheVariants.{Write, Read, Work, Hardware, Condition, Sample, Lasting, Module, Line}
use Rattle.model.specs.declared.event.Event.{Event}
use Rattle.night_text.proofs.Lines.{line-most}
use Rattle.laws.proofs.Reading.{step_reads}
use Rattle.night_lines.specs.Lines.{shown_by}

-- the first of some refusals is no done answer if it applies
first_refused : (room : ℕ) (s : State) (address count : ℕ) → is_done (first_of (event_refusals room s (Read address count))) ≡ true
    → is_bad_access read_limit address count ≡ false
unfolding first_of event_refusals is_done pick
first_refused room s address count d = split (is_bad_access read_limit address count) (λ e. absurd (clash (rw (e, pick) at d) refl)) (λ e. e)

-- a call that is not refused reads no more than fit
read-most : (room : ℕ) (s : State) (call : Call) → is_done (first_of (event_refusals room s call)) ≡ true → read_count call ≤ 128
unfolding is_bad_access
read-most room s (Write address count) d = omega arith
read-most room s (Read address count) d =
    ltb-false read_limit count (either_l _ _ (either_r _ _ (first_refused room s address count d)))
read-most room s (Work l) d = omega arith
read-most room s (Hardware l) d = omega arith
read-most room s (Condition flag mask) d = omega arith
read-most room s (Sample l p) d = omega arith
read-most room s (Lasting flag on off) d = omega arith
read-most room s Module d = omega arith
read-most room s (Line on) d = omega arith

module _ (room : ℕ) (s : State) (e : Event) where
  abbrev answer_of : Answer
  answer_of = first_of (event_refusals room s e.call)

  step-answer : (step early room s e).answer ≡ answer_of
  unfolding step answered_step done_step refused_step pick
  step-answer = split (is_done answer_of) (λ d. rw (d, pick)) (λ d. rw (d, pick))

  step-length : length (step early room s e).bytes ≡ pick (is_done answer_of) (read_count e.call) 0
  step-length = elim (step_reads early s room e) [
    | inl r ↦ r.1 ∙ sym (pick_true (read_count e.call) 0 (rw step-answer at r.0))
    | inr r ↦ ap length r.1 ∙ sym (pick-false (read_count e.call) 0 (rw step-answer at r.0))
  ]

  -- the answer's number and the call tell how many bytes a step shows
  pub step-shows : length (step early room s e).bytes ≡ shown_by (number (step early room s e).answer) e.call
  unfolding shown_by is_done
  step-shows = rw step-answer step-length

  pub step-most : length (step early room s e).bytes ≤ 128
  step-most = split (is_done answer_of)
      (λ d. rw (step-length, pick_true (read_count e.call) 0 d) (read-most room s e.call d))
      (λ d. rw (step-length, pick-false (read_count e.call) 0 d) (omega arith))

-- an event is answered with a digit
digit_or : (a : Answer) (c : Bool) (rs : List Refusal) → number a < 10 → number (first_of rs) < 10 → number (first_of (refuse a c ∷ rs)) < 10
unfolding first_of pick
digit_or a true rs h r = h
digit_or a false rs h r = r

none-digit : number (first_of []) < 10
unfolding first_of
none-digit = omega arith

event-digit : (room : ℕ) (s : State) (call : Call) → number (first_of (event_refusals room s call)) < 10
unfolding event_refusals
event-digit room s (Write address count) = digit_or _ _ _ (omega arith) none-digit
event-digit room s (Read address count) = digit_or _ _ _ (omega arith) (digit_or _ _ _ (omega arith) none-digit)
event-digit room s (Work l) = digit_or _ _ _ (omega arith) (digit_or _ _ _ (omega arith) none-digit)
event-digit room s (Hardware l) = digit_or _ _ _ (omega arith) (digit_or _ _ _ (omega arith) (digit_or _ _ _ (omega arith) none-digit))
event-digit room s (Condition flag mask) = digit_or _ _ _ (omega arith) none-digit
event-digit room s (Sample l p) = digit_or _ _ _ (omega arith) none-digit
event-digit room s (Lasting flag on off) = digit_or _ _ _ (omega arith) none-digit
event-digit room s Module = none-digit
event-digit room s (Line on) = none-digit

step-digit : (room : ℕ) (s : State) (e : Event) → number (step early room s e).answer < 10
step-digit room s e = rw (step-answer room s e) (event-digit room s e.call)

-- how long the line of a step is at most
pub line-fits : (s : State) (e : Event) (k : ℕ) → length (line k (number (step early list_room s e).answer) (step early list_room s e).bytes) ≤ line_room (length (decimal k))
line-fits s e k = line-most k _ _ (step-digit list_room s e) (step-most list_room s e)

-- the line of a step, from what it left: its answer's number, and the first bytes of its buffer
module _ (s : State) (e : Event) (a n : ℕ) (buffer left : List ℕ) (buffered : left ≡ laid_over (step early list_room s e).bytes buffer)
    (numbered : a ≡ number (step early list_room s e).answer) (counted : n ≡ shown_by a e.call) where
  shown_count : n ≡ length (step early list_room s e).bytes
  shown_count = counted ∙ rw numbered (sym (step-shows list_room s e))

  pub shown_most : n ≤ 128
  shown_most = rw shown_count (step-most list_room s e)

  module _ (k : ℕ) where
    pub shown_line : line k a (take n left) ≡ line k (number (step early list_room s e).answer) (step early list_room s e).bytes
    unfolding laid_over
    shown_line = rw (buffered, take_at (step early list_room s e).bytes (drop (length (step early list_room s e).bytes) buffer) n (sym shown_count), numbered)

    -- it fits where the longest line of its index does
    pub shown_fits : (at room : ℕ) → at + line_room (length (decimal k)) ≤ room → at + length (line k a (take n left)) ≤ room
    shown_fits at room h = rw shown_line (omega (arith, line-fits s e k))
