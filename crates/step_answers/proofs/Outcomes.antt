-- What a step leaves, once its answer is known. Assumes nothing.
use Rattle.std.proofs.Common.{None, Some, Option}
use mathlib.Core.Path.{◌≡◌, refl, ap, sym, ◌∙◌}
use mathlib.Core.Bool.{false}
use mathlib.Core.List.{List, [], ◌∷◌}
use Prim.Native.Nat.{ℕ, ◌≤◌}
use native.Mathlib.Omega.{arith}
use lib.Dec.{ltb}
use lib.ListN.{length, take, length-take}
use Rattle.bits.proofs.Tests.{split, pick_true, pick-false}
use Rattle.model.specs.Map.{Image}
use Rattle.model.specs.Answers.{is_done}
use Rattle.model.specs.Records.{stage_at}
use Rattle.model.specs.State.{State, with_image}
use Rattle.model.specs.Effect.{Effect, on_state}
use Rattle.model.specs.Work.{early, closing_effect, work_effect_by, work_effect_on, work_effect}
use Rattle.model.specs.Flags.{settled_image}
use Rattle.model.specs.Refusals.{first_of, event_refusals}
use Rattle.model.specs.Step.{event_effect, done_step, refused_step, answered_step, step}
use Rattle.contracts.specs.Forms.{IsState, IsOutcome}
use Rattle.model.specs.Outcome.{laid_over, step_outcome}
use Rattle.model.specs.declared.answer.Answer.{Answer}
use Rattle.model.specs.declared.answer.Answer.TheVariants.{Done}
use Rattle.contracts.specs.declared.Returned.{Returned}
use Rattle.model.specs.declared.event.Call.{Call}
use Rattle.model.specs.declared.event.Event.{Event}
use Rattle.model.specs.declared.lane.Progress.{Progress}
use Rattle.model.specs.declared.lane.Trigger.{Trigger}
use Rattle.model.specs.declared.lane.Verdict.{Verdict}
use Rattle.model.specs.declared.lane.Working.{Working}
use Rattle.model.specs.declared.lane.Verdict.TheVariants.{Pass, Reject}

module _ (room : ℕ) (s : State) (e : Event) (buffer : List ℕ) where
  step-refused : (a : Answer) → first_of (event_refusals room s e.call) ≡ a → is_done a ≡ false → step early room s e ≡ refused_step a s
  unfolding step answered_step
  step-refused a p q = rw p (pick-false _ _ q)

  step_done : first_of (event_refusals room s e.call) ≡ Done → step early room s e ≡ done_step Done (event_effect early s e.bytes e.call)
  unfolding step answered_step is_done
  step_done p = rw p (pick_true _ _ refl)

  -- a refusal leaves everything as it was
  pub refused_leaves : (a : Answer) (r : Returned) → first_of (event_refusals room s e.call) ≡ a → is_done a ≡ false
      → r ≡ record { answer = a; mask = 0; working = s.working } → IsOutcome (step_outcome (step early room s e) buffer) r s.image buffer
  unfolding step_outcome refused_step laid_over
  refused_leaves a r p q h =
      rw (step-refused a p q)
      (record { answer = ap (λ t. t.answer) h; image = refl; working = ap (λ t. t.working) h; buffer = refl; mask = ap (λ t. t.mask) h })

  -- an event that is carried out leaves that, with lower 3.0 settled
  pub done_leaves : (c : Effect) (r : Returned) (y z : Image) (b : List ℕ) → first_of (event_refusals room s e.call) ≡ Done
      → c ≡ event_effect early s e.bytes e.call → r.answer ≡ Done → y ≡ c.state.image → z ≡ settled_image y → r.working ≡ c.state.working
      → b ≡ laid_over c.bytes buffer → r.mask ≡ c.mask → IsOutcome (step_outcome (step early room s e) buffer) r z b
  unfolding step_outcome done_step
  done_leaves c r y z b p q ha hy hz hw hb hm =
      rw (step_done p, ← q) (record { answer = ha; image = hz ∙ ap settled_image hy; working = hw; buffer = hb; mask = hm })

  -- .. one that changes the image alone
  pub image_leaves : (v y z : Image) (r : Returned) → first_of (event_refusals room s e.call) ≡ Done
      → event_effect early s e.bytes e.call ≡ on_state (with_image s v) → y ≡ v → z ≡ settled_image y
      → r ≡ record { answer = Done; mask = 0; working = s.working } → IsOutcome (step_outcome (step early room s e) buffer) r z buffer
  unfolding laid_over
  image_leaves v y z r p q hy hz h =
      done_leaves (on_state (with_image s v)) r y z buffer p (sym q) (ap (λ t. t.answer) h) hy hz (ap (λ t. t.working) h) refl (ap (λ t. t.mask) h)

  -- .. one that changes the records too
  pub state_leaves : (t : State) (w : Working) (y z : Image) (r : Returned) → first_of (event_refusals room s e.call) ≡ Done
      → event_effect early s e.bytes e.call ≡ on_state t → IsState t y w → z ≡ settled_image y
      → r ≡ record { answer = Done; mask = 0; working = w } → IsOutcome (step_outcome (step early room s e) buffer) r z buffer
  unfolding laid_over
  state_leaves t w y z r p q l hz h =
      done_leaves (on_state t) r y z buffer p (sym q) (ap (λ a. a.answer) h) l.image hz (ap (λ a. a.working) h ∙ l.working) refl (ap (λ a. a.mask) h)

-- a work step reads nothing
by_reads_nothing : (d : Verdict) (s : State) (g : ℕ) (t : Trigger) → (work_effect_by d early s g t).bytes ≡ []
unfolding work_effect_by closing_effect
by_reads_nothing (Reject code) s g t = refl
by_reads_nothing (Pass n) s g t = split (ltb n 8) (λ h. ap (λ (c : Effect). c.bytes) (pick_true _ _ h)) (λ h. ap (λ (c : Effect). c.bytes) (pick-false _ _ h))

on_reads_nothing : (t : Option Progress) (s : State) → (work_effect_on t early s).bytes ≡ []
unfolding work_effect_on
on_reads_nothing None s = refl
on_reads_nothing (Some p) s = by_reads_nothing p.verdict s p.group p.trigger

pub work_reads_nothing : (s : State) (l : ℕ) → (work_effect early s l).bytes ≡ []
unfolding work_effect
work_reads_nothing s l = on_reads_nothing (stage_at s.working l) s

-- nothing read leaves any buffer as it was
laid_none : (bytes buffer : List ℕ) → [] ≡ laid_over bytes [] → buffer ≡ laid_over bytes buffer
unfolding laid_over
laid_none [] buffer h = refl
laid_none (b ∷ bytes) buffer h = let z : ◌≡◌ {A = ℕ} 0 1 = cc in absurd (omega arith)

-- an event by its call alone, with any room and buffer where it reads nothing
module _ (room : ℕ) (s : State) (e : Event) (buffer : List ℕ) (c : Call) (bytes : List ℕ) (r : Returned) (y : Image) (p : e.call ≡ c) where
  like_step : (room' : ℕ) → event_refusals room s c ≡ event_refusals room' s c → event_effect early s e.bytes c ≡ event_effect early s bytes c
      → step early room s e ≡ step early room' s (record { call = c; bytes = bytes })
  unfolding step
  like_step room' q t = rw (p, q, t)

  pub elsewhere : event_refusals room s c ≡ event_refusals 0 s c → event_effect early s e.bytes c ≡ event_effect early s bytes c
      → IsOutcome (step_outcome (step early 0 s (record { call = c; bytes = bytes })) []) r y [] → IsOutcome (step_outcome (step early room s e) buffer) r y buffer
  unfolding step_outcome
  elsewhere q t h =
      rw (like_step 0 q t) (record { answer = h.answer; image = h.image; working = h.working; buffer = laid_none _ buffer h.buffer; mask = h.mask })

  pub as_asked : (b : List ℕ) → event_effect early s e.bytes c ≡ event_effect early s bytes c
      → IsOutcome (step_outcome (step early room s (record { call = c; bytes = bytes })) buffer) r y b → IsOutcome (step_outcome (step early room s e) buffer) r y b
  as_asked b t h = rw (like_step room refl t) h

pub length_taken : (n : ℕ) (bytes : List ℕ) → n ≤ length bytes → n ≡ length (take n bytes)
length_taken n bytes h = simp length-take (omega arith)
