-- Laws of one event more in a run, wherever the events come from: the state and the text after it, and the room that its line takes. Assumes nothing.
use mathlib.Core.Path.{◌≡◌, refl, sym, ◌∙◌}
use mathlib.Core.List.{List, ◌++◌}
use Prim.Native.Nat.{ℕ, suc, ◌+◌, ◌-◌, ◌≤◌}
use native.Mathlib.Omega.{arith}
use lib.ListN.{length}
use Rattle.bits.proofs.Loops.{length-tab}
use Rattle.model.specs.Answers.{number}
use Rattle.model.specs.State.{State, state_with}
use Rattle.model.specs.Work.{early}
use Rattle.model.specs.Step.{Stepped, step, run, ending}
use Rattle.model.specs.Outcome.{list_room}
use Rattle.model.specs.Text.{line}
use Rattle.model.specs.Night.{lines_from}
use Rattle.model.specs.declared.lane.Working.{Working}
use Rattle.model.specs.declared.event.Event.{Event}
use Rattle.bits.specs.Loop.{tab}
use Rattle.laws_list.proofs.Runs.{ending_snoc, run_snoc, length_run}
use Rattle.night_text.specs.Buffer.{Puts, longest_line}
use Rattle.night_text.proofs.Laid.{laid_none, puts_then}
use Rattle.night_text.proofs.Lines.{length_any_index}
use Rattle.night_lines.specs.Lines.{Turns}
use Rattle.night_lines.specs.declared.Reached.{Reached}
use Rattle.night_lines.proofs.ReadBytes.{line-fits}
use Rattle.night_play.proofs.Records.{tab_snoc, lines_snoc}

-- the events of a night by their index, from a first on
module _ (s : State) (event : ℕ → Event) (first : ℕ) where
  abbrev events : ℕ → List Event
  events n = tab n (λ i. event (first + i))

  -- the state after n of these, and their text
  abbrev state_after : ℕ → State
  state_after n = ending early list_room s (events n)

  abbrev text_after : ℕ → List ℕ
  text_after n = lines_from first (run early list_room s (events n))

  -- before the first
  pub state-none : (n : ℕ) → n ≡ 0 → s ≡ state_after n
  unfolding ending tab
  state-none n e = rw e

  pub text-none : (out : List ℕ) (n : ℕ) → n ≡ 0 → Puts 0 (text_after n) out out 0
  unfolding lines_from run tab
  text-none out n e = rw e (record { buffer = sym (laid_none 0 out); next = refl })

  -- the step of event k, and what it adds
  module _ (k : ℕ) (past : first ≤ k) where
    abbrev step_of : Stepped
    step_of = step early list_room (state_after (k - first)) (event k)

    here : first + (k - first) ≡ k
    here = omega (arith, past)

    one_more : k + 1 - first ≡ suc (k - first)
    one_more = omega (arith, past)

    state-next : state_after (k + 1 - first) ≡ step_of.state
    state-next = rw (one_more, tab_snoc (k - first) (λ i. event (first + i)), here) (ending_snoc early list_room s (events (k - first)) (event k))

    text-next : text_after (k + 1 - first) ≡ text_after (k - first) ++ line k (number step_of.answer) step_of.bytes
    text-next =
        rw (
          one_more,
          tab_snoc (k - first) (λ i. event (first + i)),
          here,
          run_snoc early list_room s (events (k - first)) (event k),
          lines_snoc first (run early list_room s (events (k - first))) (step early list_room (state_after (k - first)) (event k)),
          length_run early list_room s (events (k - first)),
          length-tab (k - first) (λ i. event (first + i)),
          here,
        )

    -- a turn of the loop over the events
    module _ (image buffer buffer_left out after left : List ℕ) (w : Working) (at : ℕ) (r : Reached) (reached : state_with image w ≡ state_after (k - first))
        (turned : Turns (step early list_room (state_with image w) (event k)) k at buffer buffer_left out after left r) where
      turns : Turns step_of k at buffer buffer_left out after left r
      turns = rw reached at turned

      pub turn_state : state_with left r.working ≡ state_after (k + 1 - first)
      turn_state = (λ i. record { image = turns.registers i; working = turns.lanes i }) ∙ sym state-next

      pub turn_text : (before : List ℕ) → at ≤ length before → Puts 0 (text_after (k - first)) before out at → Puts 0 (text_after (k + 1 - first)) before after r.at
      turn_text before h p = rw text-next (puts_then h p turns.text)

      pub turn_room : r.at ≤ at + longest_line
      turn_room = omega (arith, turns.text.next, line-fits (state_after (k - first)) (event k) k, length_any_index k)
