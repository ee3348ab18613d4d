-- Laws of one record more in a run over a file: the state and the text after it, and the room that its line takes. Assumes nothing.
use mathlib.Core.Path.{◌≡◌}
use mathlib.Core.List.{List}
use Prim.Native.Nat.{ℕ, ◌+◌, ◌-◌, ◌≤◌}
use lib.ListN.{length}
use Rattle.model.specs.State.{State, state_with}
use Rattle.model.specs.Work.{early}
use Rattle.model.specs.Step.{step}
use Rattle.model.specs.Outcome.{list_room}
use Rattle.model.specs.declared.lane.Working.{Working}
use Rattle.night_text.specs.Buffer.{Puts, longest_line}
use Rattle.night_lines.specs.Lines.{Turns}
use Rattle.night_lines.specs.declared.Reached.{Reached}
use Rattle.night_runs.specs.FileRunning.{event_in, file_events_from, file_state_from, file_text_from}
use Rattle.night_runs.proofs.EventTurns as events

-- before the first record
pub state-none : (s : State) (file : List ℕ) (first n : ℕ) → n ≡ 0 → s ≡ file_state_from s file first n
unfolding file_state_from file_events_from
state-none s file first n e = events.state-none s (event_in file) first n e

pub text-none : (s : State) (file : List ℕ) (out : List ℕ) (first n : ℕ) → n ≡ 0 → Puts 0 (file_text_from s file first n) out out 0
unfolding file_text_from file_events_from
text-none s file out first n e = events.text-none s (event_in file) first out n e

-- a turn of the loop over the records
module _ (s : State) (file : List ℕ) (first k : ℕ) (past : first ≤ k)
    (image buffer buffer_left out after left : List ℕ) (w : Working) (at : ℕ) (r : Reached) (reached : state_with image w ≡ file_state_from s file first (k - first))
    (turned : Turns (step early list_room (state_with image w) (event_in file k)) k at buffer buffer_left out after left r) where
  pub turn_state : state_with left r.working ≡ file_state_from s file first (k + 1 - first)
  unfolding file_state_from file_events_from
  turn_state = events.turn_state s (event_in file) first k past image buffer buffer_left out after left w at r reached turned

  pub turn_text : (before : List ℕ) → at ≤ length before → Puts 0 (file_text_from s file first (k - first)) before out at → Puts 0 (file_text_from s file first (k + 1 - first)) before after r.at
  unfolding file_state_from file_text_from file_events_from
  turn_text before h p = events.turn_text s (event_in file) first k past image buffer buffer_left out after left w at r reached turned before h p

  pub turn_room : r.at ≤ at + longest_line
  unfolding file_state_from file_events_from
  turn_room = events.turn_room s (event_in file) first k past image buffer buffer_left out after left w at r reached turned
