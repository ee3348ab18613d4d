-- Demand 3: public calls after a start, and the comparison run in which each accepted group is carried out whole at its closing step, with the settings
-- held at its trigger, are the same but for the active-setting bits of lanes in progress. The two differ in the mode of `step` alone: early and late.
use Rattle.std.specs.Prelude.{ℕ, ◌+◌, ◌<◌, ◌≡◌, Bool, false, List, length, take, drop}
use Rattle.bits.specs.Choice.{both}
use Rattle.bits.specs.Loop.{any_below}
use Rattle.bits.specs.Place.{covers}
use Rattle.model.specs.Map.{Image, setting_count, setting_at, active_set}
use Rattle.bits.specs.Sets.{lane_count}
use Rattle.model.specs.Records.{no_settings, stage_at, is_in_progress}
use Rattle.model.specs.View.{settings_at}
use Rattle.model.specs.State.{State}
use Rattle.model.specs.Work.{early, late}
use Rattle.model.specs.Pages.{index_of}
use Rattle.model.specs.Start.{started_state, reset_state}
use Rattle.model.specs.Step.{read_count, read_address, Stepped, step}
use Rattle.model.specs.Outcome.{Outcome, start_outcome, step_outcome}
use Rattle.model.specs.declared.event.Call.{Call}
use Rattle.model.specs.declared.event.Event.{Event}
use Rattle.model.specs.declared.lane.Working.{Working}
use Rattle.laws_frames.specs.Alike.{Alike}
use Rattle.laws.specs.Calls.{Called}
use Rattle.laws_sound.specs.Reached.{through}

-- ---- the comparison run: the same events with the same buffers, beside the calls

-- its call: a step in which a group is copied whole as it closes; it is never asked for 1, 2 and 3
abbrev pub whole_at : State → Called → Outcome
whole_at a c = step_outcome (step late (length c.buffer) a c.event) c.buffer

-- the state that it reaches by the same calls after the same start
abbrev pub compared_by : Image → List Called → State
compared_by x cs = through whole_at (start_outcome x).state cs

-- ---- the bits that may differ

-- bit b of image byte i is an active-setting bit of lane l
unfoldable pub is_active_bit : ℕ → ℕ → ℕ → Bool
is_active_bit l i b = any_below setting_count (λ k. covers (setting_at active_set k l) i b)

-- .. of a lane that passes the test
unfoldable pub active_bit_of : (ℕ → Bool) → ℕ → ℕ → Bool
active_bit_of c i b = any_below lane_count (λ l. both (c l) (is_active_bit l i b))

-- hidden: an active-setting bit of a lane in progress
unfoldable pub hidden : Working → ℕ → ℕ → Bool
hidden w = active_bit_of (λ l. is_in_progress (stage_at w l))

-- ---- the same but for them

-- no lane is in progress
abbrev pub NoneInProgress : Working → Type 0
NoneInProgress w = (l : ℕ) → l < lane_count → is_in_progress (stage_at w l) ≡ false

-- two states: one working state, images alike but for hidden bits, and equal whenever no lane is in progress
pub record SameState (s a : State) : Type 0 where
  pub working : s.working ≡ a.working
  pub image : Alike (hidden s.working) s.image a.image
  pub quiet : NoneInProgress s.working → s.image ≡ a.image

-- bit b of the k-th byte that the event reads in a state is hidden there
unfoldable pub hidden_read : State → Call → ℕ → ℕ → Bool
hidden_read s c k b = hidden s.working (index_of s.image (read_address c) + k) b

-- two buffers left of one that was lent: their first n bytes are alike but for excepted bits, and the rest of each is untouched
pub record SameBuffer (except : ℕ → ℕ → Bool) (n : ℕ) (lent xs ys : List ℕ) : Type 0 where
  pub front : Alike except (take n xs) (take n ys)
  pub rest : drop n xs ≡ drop n lent
  pub rest' : drop n ys ≡ drop n lent

-- what a call on state s leaves in the two runs: one answer, one commission mask, buffers that differ at most in bits hidden as they are read, and
-- the states after it the same in the sense above
pub record SameOutcome (s : State) (c : Called) (o p : Outcome) : Type 0 where
  pub answer : o.answer ≡ p.answer
  pub mask : o.mask ≡ p.mask
  pub buffer : SameBuffer (hidden_read s c.event.call) (read_count c.event.call) c.buffer o.buffer p.buffer
  pub state : SameState o.state p.state

-- ---- a reset

-- a write that resets a state leaves both runs in one: the start of what is kept, with the low-power line as it was
pub record ResetInBoth (s o p : State) : Type 0 where
  pub calls : o ≡ reset_state s
  pub whole : p ≡ reset_state s

-- a fresh start: no lane is in progress, and every active setting is 0, so that an Apply that was cut off was never carried out
pub record Fresh (s : State) : Type 0 where
  pub idle : NoneInProgress s.working
  pub blank : (l : ℕ) → l < lane_count → settings_at active_set s.image l ≡ no_settings

-- ---- inside: steps that ask for 1, 2 and 3 no more, and the states that they reach from any start

-- two steps on an event, the first from state s, likewise: the bytes that they read are not yet in a buffer
pub record SameStep (s : State) (c : Call) (o p : Stepped) : Type 0 where
  pub answer : o.answer ≡ p.answer
  pub mask : o.mask ≡ p.mask
  pub bytes : Alike (hidden_read s c) o.bytes p.bytes
  pub state : SameState o.state p.state

-- the states that the two runs reach from one start by the same events, each read lent a buffer with any room
pub data Reached : State → State → Type 0 where
  begun : (x : Image) → Reached (started_state x) (started_state x)
  then : {s a : State} → Reached s a → (room : ℕ) (e : Event) → Reached (step early room s e).state (step late room a e).state
