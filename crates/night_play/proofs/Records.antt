-- Laws of one record more: of tables, of runs, of the lines of a run, and of a replay's state and text. Assumes nothing.
use mathlib.Core.Path.{◌≡◌, refl, sym, ap, ◌∙◌}
use mathlib.Core.List.{List, [], ◌∷◌, ◌++◌, append_assoc, append-nil}
use Prim.Native.Nat.{ℕ, zero, suc, ◌+◌, ◌≤◌, ◌<◌}
use native.Mathlib.Nat.{add-zero, add-suc, suc-add, zero-add}
use native.Mathlib.Numerals.{add-one}
use native.Mathlib.Omega.{arith}
use lib.ListN.{length}
use Rattle.bits.specs.Loop.{tab}
use Rattle.bits.proofs.Loops.{length-tab}
use Rattle.model.specs.Answers.{number}
use Rattle.model.specs.State.{State, state_with}
use Rattle.model.specs.Work.{early}
use Rattle.model.specs.Step.{Stepped, step, run, ending}
use Rattle.model.specs.Outcome.{list_room}
use Rattle.model.specs.File.{Edition, record_limit}
use Rattle.model.specs.Text.{line}
use Rattle.model.specs.Night.{lines_from}
use Rattle.model.specs.declared.lane.Working.{Working}
use Rattle.laws_list.proofs.Runs.{ending_snoc, run_snoc, length_run}
use Rattle.night_text.specs.Buffer.{Puts, line_room}
use Rattle.night_text.proofs.Laid.{laid_none, puts_then}
use Rattle.night_text.proofs.Lines.{length_index}
use Rattle.night_play.specs.Playing.{event_in, state_after, text_after}
use Rattle.night_lines.specs.Lines.{Turns}
use Rattle.night_lines.specs.declared.Reached.{Reached}
use Rattle.night_lines.proofs.ReadBytes.{line-fits}

pub tab_snoc {ℓ} : {A : Type ℓ} (n : ℕ) (f : ℕ → A) → tab (suc n) f ≡ tab n f ++ (f n ∷ [])
unfolding tab
tab_snoc zero f = refl
tab_snoc (suc n) f = ap (λ l. f 0 ∷ l) (tab_snoc n (λ k. f (suc k)))

pub lines_snoc : (index : ℕ) (os : List Stepped) (o : Stepped)
    → lines_from index (os ++ (o ∷ [])) ≡ lines_from index os ++ line (index + length os) (number o.answer) o.bytes
unfolding lines_from
lines_snoc index [] o = rw (add-zero index) (append-nil _)
lines_snoc index (p ∷ os) o =
    rw (add-suc index (length os), ← suc-add index (length os), lines_snoc (suc index) os o)
    (sym (append_assoc (line index (number p.answer) p.bytes) (lines_from (suc index) os) (line (suc index + length os) (number o.answer) o.bytes)))

-- before the first record
pub state-none : (s : State) (row : Edition) (records : List (List ℕ)) → state_after s row records 0 ≡ s
unfolding state_after ending tab
state-none s row records = refl

pub text-none : (s : State) (row : Edition) (records : List (List ℕ)) (out : List ℕ) → Puts 0 (text_after s row records 0) out out 0
unfolding text_after lines_from run tab
text-none s row records out = record { buffer = sym (laid_none 0 out); next = refl }

-- the step of record k, and what it adds
module _ (s : State) (row : Edition) (records : List (List ℕ)) (k : ℕ) where
  abbrev pub step_of : Stepped
  step_of = step early list_room (state_after s row records k) (event_in row records k)

  pub state-next : state_after s row records (k + 1) ≡ step_of.state
  unfolding state_after
  state-next = rw (add-one k, tab_snoc k (event_in row records)) (ending_snoc early list_room s (tab k (event_in row records)) (event_in row records k))

  pub text-next : text_after s row records (k + 1) ≡ text_after s row records k ++ line k (number step_of.answer) step_of.bytes
  unfolding state_after text_after
  text-next =
      rw (
        add-one k,
        tab_snoc k (event_in row records),
        run_snoc early list_room s (tab k (event_in row records)) (event_in row records k),
        lines_snoc 0 (run early list_room s (tab k (event_in row records))) (step early list_room (ending early list_room s (tab k (event_in row records))) (event_in row records k)),
        length_run early list_room s (tab k (event_in row records)),
        length-tab k (event_in row records),
        zero-add k,
      )

  -- the room of its line: an index of a night has at most four digits
  pub night-line-fits : k < record_limit → length (line k (number step_of.answer) step_of.bytes) ≤ line_room 4
  night-line-fits h = omega (arith, line-fits (state_after s row records k) (event_in row records k) k, length_index k (omega arith))

  -- a turn of the loop over the records
  module _ (image buffer buffer_left out after left : List ℕ) (w : Working) (at : ℕ) (r : Reached) (reached : state_with image w ≡ state_after s row records k)
      (turned : Turns (step early list_room (state_with image w) (event_in row records k)) k at buffer buffer_left out after left r) where
    turns : Turns step_of k at buffer buffer_left out after left r
    turns = rw reached at turned

    pub turn_state : state_with left r.working ≡ state_after s row records (k + 1)
    turn_state = (λ i. record { image = turns.registers i; working = turns.lanes i }) ∙ sym state-next

    pub turn_text : (before : List ℕ) → at ≤ length before → Puts 0 (text_after s row records k) before out at → Puts 0 (text_after s row records (k + 1)) before after r.at
    turn_text before h p = rw text-next (puts_then h p turns.text)

    pub turn_room : k < record_limit → r.at ≤ at + line_room 4
    turn_room h = omega (arith, turns.text.next, night-line-fits h)
