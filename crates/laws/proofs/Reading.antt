-- How many bytes a step reads, and that a caller finds them in its buffer. Assumes nothing.
use Rattle.std.proofs.Common.{None, Some, Option}
use mathlib.Core.Path.{◌≡◌, refl, sym, ap}
use mathlib.Core.Bool.{true, false}
use mathlib.Core.List.{List, []}
use mathlib.Core.Logic.{◌⊎◌, inl, inr}
use Prim.Native.Nat.{ℕ}
use lib.Dec.{ltb}
use lib.ListN.{length}
use Rattle.bits.specs.Choice.{pick}
use Rattle.bits.proofs.Tests.{split}
use Rattle.bits.proofs.Loops.{length-tab}
use Rattle.bits.specs.Sets.{lane_count}
use Rattle.model.specs.Answers.{is_done}
use Rattle.model.specs.Records.{stage_at}
use Rattle.model.specs.State.{State}
use Rattle.model.specs.Work.{Mode, closing_effect, work_effect_by, work_effect_on, work_effect}
use Rattle.model.specs.Access.{taken_bytes}
use Rattle.model.specs.Refusals.{first_of, event_refusals}
use Rattle.model.specs.Step.{read_count, read_effect, event_effect, done_step, refused_step, answered_step, step}
use Rattle.model.specs.Outcome.{step_outcome}
use Rattle.model.specs.declared.lane.Trigger.{Trigger}
use Rattle.model.specs.declared.lane.Verdict.{Verdict}
use Rattle.model.specs.declared.lane.Verdict.TheVariants.{Pass, Reject}
use Rattle.model.specs.declared.lane.Progress.{Progress}
use Rattle.model.specs.declared.event.Call.{Call}
use Rattle.model.specs.declared.event.Call.TheVariants.{Write, Read, Work, Hardware, Condition, Sample, Lasting, Module, Line}
use Rattle.model.specs.declared.event.Event.{Event}
use Rattle.laws.specs.Reading.{given_by}
use Rattle.laws.proofs.Unchanged.{laid_front}

module _ (mode : Mode) (s : State) where
  -- a work step reads nothing
  by_reads : (v : Verdict) (g : ℕ) (t : Trigger) → (work_effect_by v mode s g t).bytes ≡ []
  unfolding work_effect_by closing_effect pick
  by_reads (Reject code) g t = refl
  by_reads (Pass n) g t = split (ltb n lane_count) (λ e. rw (e, pick)) (λ e. rw (e, pick))

  on_reads : (u : Option Progress) → (work_effect_on u mode s).bytes ≡ []
  unfolding work_effect_on
  on_reads None = refl
  on_reads (Some p) = by_reads p.verdict p.group p.trigger

  carried_reads : (bytes : List ℕ) (c : Call) → length (event_effect mode s bytes c).bytes ≡ read_count c
  unfolding event_effect read_effect taken_bytes work_effect
  carried_reads bytes (Write address count) = refl
  carried_reads bytes (Read address count) = length-tab count _
  carried_reads bytes (Work l) = ap length (on_reads (stage_at s.working l))
  carried_reads bytes (Hardware l) = refl
  carried_reads bytes (Condition flag mask) = refl
  carried_reads bytes (Sample l p) = refl
  carried_reads bytes (Lasting flag on off) = refl
  carried_reads bytes Module = refl
  carried_reads bytes (Line on) = refl

  module _ (room : ℕ) (e : Event) where
    -- a step that is done reads as many bytes as its event asks for, and one that is refused none
    pub step_reads : ((is_done (step mode room s e).answer ≡ true) × (length (step mode room s e).bytes ≡ read_count e.call))
        ⊎ ((is_done (step mode room s e).answer ≡ false) × ((step mode room s e).bytes ≡ []))
    unfolding step answered_step done_step refused_step pick
    step_reads = split (is_done (first_of (event_refusals room s e.call)))
        (λ d. inl (rw (d, pick) (d, carried_reads e.bytes e.call)))
        (λ d. inr (rw (d, pick) (d, refl)))

    -- they are what the buffer shows that they are laid over
    pub step_gives : (buffer : List ℕ) → given_by e.call (step_outcome (step mode room s e) buffer) ≡ (step mode room s e).bytes
    unfolding given_by step_outcome pick
    step_gives buffer = elim step_reads [
      | inl r ↦ rw (r.0, pick) (laid_front (read_count e.call) (step mode room s e).bytes buffer r.1)
      | inr r ↦ rw (r.0, pick) (sym r.1)
    ]
