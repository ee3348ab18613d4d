-- Both runs, step by step from a start. Of the run it is used that a start is sound and that every step keeps it so.
use mathlib.Core.Path.{◌≡◌, refl, sym, subst}
use mathlib.Core.Bool.{false}
use mathlib.Core.List.{[]}
use Prim.Native.Nat.{ℕ}
use lib.ListN.{get_or}
use Rattle.bits.specs.Choice.{pick}
use Rattle.bits.proofs.Tests.{split, clash}
use Rattle.bits.proofs.Places.{image_ext}
use Rattle.model.specs.Map.{Image}
use Rattle.model.specs.Answers.{is_done}
use Rattle.model.specs.State.{State, state_with}
use Rattle.model.specs.Work.{early, late}
use Rattle.model.specs.Start.{started_state}
use Rattle.model.specs.Refusals.{first_of, event_refusals}
use Rattle.model.specs.Step.{Stepped, done_step, refused_step, answered_step, step}
use Rattle.model.specs.declared.event.Call.{Call}
use Rattle.model.specs.declared.event.Event.{Event}
use Rattle.model.specs.declared.lane.Working.{Working}
use Rattle.laws_sound.proofs.Quiet.{Well}
use Rattle.laws_sound.proofs.Steps.{step_well}
use Rattle.laws_sound.proofs.Starting.{start_well}
use Rattle.laws_whole.specs.Whole.{hidden, SameState, hidden_read, Reached, begun, then}
use Rattle.laws_whole.proofs.Agree.{of_none}
use Rattle.laws_whole.proofs.Pairs.{passed, passing_busy, veiled, Pair, Paired}
use Rattle.laws_whole.proofs.Events.{hidden_veiled, fresh_pair, settled_pair, refusals_same, carried-pair}
use Rattle.laws_frames.proofs.Alike.{alike_refl, alike_weaken}
use Rattle.laws_frames.specs.Alike.{Alike}

-- ---- one step of both runs, given that the run's states are sound

-- what the two steps on an event give, with what goes on inside
pub record Both (s : State) (c : Call) (o p : Stepped) : Type 0 where
  pub answer : o.answer ≡ p.answer
  pub mask : o.mask ≡ p.mask
  pub bytes : Alike (hidden_read s c) o.bytes p.bytes
  pub paired : Paired o.state p.state

-- a sound state of the run, and its pair in the comparison run
pub record Twin (s a : State) : Type 0 where
  pub two : ℕ
  pub well : Well two s
  pub paired : Paired s a

pub same-state : (s a : State) → Paired s a → SameState s a
same-state s a Q = record {
  working = sym Q.working;
  image = alike_weaken (veiled s.working) (hidden s.working) s.image a.image (hidden_veiled s.working) Q.pair.alike;
  quiet = λ q. image_ext s.image a.image Q.pair.alike.size (λ i b. Q.pair.alike.bits i b
      (of_none (passed s.working) i b (λ l hl p. absurd (clash (passing_busy _ p) (q l hl)))));
}

start-pair : (x : Image) → Paired (started_state x) (started_state x)
unfolding started_state
start-pair x = fresh_pair x false

both-states : (room : ℕ) (e : Event) (x y : Image) (w : Working) (two : ℕ) → Well two (state_with x w) → Pair x y w
    → Both (state_with x w) e.call (step early room (state_with x w) e) (step late room (state_with y w) e)
unfolding step answered_step done_step refused_step pick
both-states room e x y w two T P = split (is_done (first_of (event_refusals room (state_with x w) e.call)))
    (λ d. let C = carried-pair x y w two T P room e.bytes e.call d in
    rw (← (refusals_same x y w T.sound P room e.call), d, pick)
    (record { answer = refl; mask = C.mask; bytes = C.bytes; paired = settled_pair _ _ C.states }))
    (λ d. rw (← (refusals_same x y w T.sound P room e.call), d, pick)
    (record { answer = refl; mask = refl; bytes = alike_refl _ []; paired = record { working = refl; pair = P } }))

pub both-step : (room : ℕ) (e : Event) (s a : State) → Twin s a → Both s e.call (step early room s e) (step late room a e)
both-step room e s a T = subst (λ u. Both s e.call (step early room s e) (step late room (state_with a.image u) e)) (sym T.paired.working)
    (both-states room e s.image a.image s.working T.two T.well T.paired.pair)

next_twin : (room : ℕ) (e : Event) (s a : State) → Twin s a → Twin (step early room s e).state (step late room a e).state
next_twin room e s a T = record { two = T.two; well = step_well T.two room s e T.well; paired = (both-step room e s a T).paired }

-- from one start, by the same events
pub reached_twin : {s a : State} → Reached s a → Twin s a
reached_twin (begun x) = record { two = get_or x 2 0; well = start_well x; paired = start-pair x }
reached_twin (then {s} {a} r room e) = next_twin room e s a (reached_twin r)
