-- A step that is done is the event carried out and lower 3.0 settled; one that is refused is nothing. Assumes nothing.
use Rattle.std.proofs.Common.{Some}
use mathlib.Core.Path.{◌≡◌, refl, ap}
use mathlib.Core.Bool.{Bool, true, false, not}
use mathlib.Core.List.{List, [], ◌∷◌}
use Prim.Native.Nat.{ℕ, ◌<◌}
use lib.Dec.{ltb}
use borrow.Author.Tests.{lt-ltb, ltb-true, not-false}
use Rattle.bits.specs.Choice.{pick}
use Rattle.bits.proofs.Tests.{split, clash}
use Rattle.model.specs.Answers.{is_done}
use Rattle.model.specs.State.{State}
use Rattle.model.specs.Records.{stage_at, is_in_progress}
use Rattle.model.specs.Work.{early, work_effect_by, work_effect_on, work_effect}
use Rattle.model.specs.Refusals.{Refusal, refuse, first_of, no_such_lane, event_refusals}
use Rattle.model.specs.Step.{event, step, event_effect, done_step, refused_step, answered_step}
use Rattle.model.specs.declared.answer.Answer.{Answer}
use Rattle.model.specs.declared.answer.Answer.TheVariants.{Done, NoSuchTarget, NothingOnLane}
use Rattle.model.specs.declared.event.Call.TheVariants.{Work}
use Rattle.model.specs.declared.event.Event.{Event}
use Rattle.model.specs.declared.lane.Progress.{Progress}
use Rattle.laws.proofs.Unchanged.{done_is}
use Rattle.laws_step.specs.Changes.{Bits, ChangesOnly, or_in, interrupt_set}
use Rattle.laws_step.specs.Told.{step_on}
use Rattle.laws_step.proofs.Frames.{keeps_then, keeps_left, keeps_right}
use Rattle.laws_step.proofs.Settling.{settled_changes}

-- where nothing is refused, each condition is false
pub not-refused : (a : Answer) (c : Bool) (rs : List Refusal) → is_done a ≡ false → first_of (refuse a c ∷ rs) ≡ Done → (c ≡ false) × (first_of rs ≡ Done)
unfolding first_of pick is_done
not-refused a true rs n e = absurd (clash (ap is_done e) n)
not-refused a false rs n e = (refl, e)

module _ (room : ℕ) (s : State) (e : Event) where
  -- the refusals that a step asks for are all false when it is done
  pub none-refused : (step early room s e).answer ≡ Done → first_of (event_refusals room s e.call) ≡ Done
  unfolding step answered_step done_step refused_step pick
  none-refused d = split (is_done (first_of (event_refusals room s e.call))) (λ i. done_is _ i) (λ i. rw (i, pick) at d)

  pub done_step_lem : (step early room s e).answer ≡ Done → step early room s e ≡ done_step Done (event_effect early s e.bytes e.call)
  unfolding step answered_step done_step is_done pick
  done_step_lem d = rw (none-refused d, is_done, pick)

  pub refused-step : ((step early room s e).answer ≡ Done → ⊥) → (step early room s e).state ≡ s
  unfolding step answered_step done_step refused_step pick
  refused-step n = split (is_done (first_of (event_refusals room s e.call)))
      (λ i. absurd (n (rw (i, pick) (done_is _ i))))
      (λ i. rw (i, pick))

  -- so a done step changes what the event changes, and lower 3.0
  pub step_changes : (may : Bits) → (step early room s e).answer ≡ Done
      → ChangesOnly may s.image (event_effect early s e.bytes e.call).state.image
      → ChangesOnly (or_in interrupt_set may) s.image (step early room s e).state.image
  unfolding done_step
  step_changes may d k = rw (done_step_lem d) (keeps_then (keeps_right interrupt_set k) (keeps_left may (settled_changes _)))

-- a lane in progress is worked on
pub work_done : (room : ℕ) (s : State) (bytes : List ℕ) (l : ℕ) (p : Progress) → l < 8 → stage_at s.working l ≡ Some p
    → step_on room s (Work l) bytes ≡ done_step Done (work_effect_by p.verdict early s p.group p.trigger)
unfolding step answered_step event_refusals first_of no_such_lane is_in_progress is_done event_effect work_effect work_effect_on pick
work_done room s bytes l p h i = rw (lt-ltb l 8 h, i, is_in_progress, pick, work_effect_on)

-- work is done only on a lane in progress
pub work-on : (room : ℕ) (s : State) (bytes : List ℕ) (l : ℕ) → (step_on room s (Work l) bytes).answer ≡ Done
    → (l < 8) × (is_in_progress (stage_at s.working l) ≡ true)
unfolding event_refusals no_such_lane is_done
work-on room s bytes l d =
    let idle = not (is_in_progress (stage_at s.working l)) in
    let r = not-refused NoSuchTarget (not (ltb l 8)) (refuse NothingOnLane idle ∷ []) refl (none-refused room s (event (Work l) bytes) d) in
    (ltb-true l 8 (not-false _ r.0), not-false _ (not-refused NothingOnLane _ [] refl r.1).0)
