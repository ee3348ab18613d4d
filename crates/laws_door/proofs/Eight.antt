-- There are eight lane records, whatever is called. Assumes nothing.
use Rattle.std.proofs.Common.{None, Some, Option}
use mathlib.Core.Path.{◌≡◌}
use mathlib.Core.List.{List, [], ◌∷◌}
use Prim.Native.Nat.{ℕ, suc}
use lib.ListN.{length, take}
use Rattle.bits.specs.Sets.{Lane, LaneSet, lane_count}
use Rattle.bits.proofs.Tests.{pick-has}
use Rattle.bits.proofs.Loops.{length-tab}
use Rattle.model.specs.Numbers.{OnBits}
use Rattle.model.specs.Map.{trigger_at}
use Rattle.model.specs.Records.{with_stages, with_ons, freed_working, advanced_working, stage_at}
use Rattle.model.specs.State.{State}
use Rattle.model.specs.Effect.{Effect}
use Rattle.model.specs.Triggers.{marked_state, triggered_state}
use Rattle.model.specs.Work.{Mode, early, closed_state, closing_effect, copied_state, work_effect_by, work_effect_on, work_effect}
use Rattle.model.specs.Flags.{sampled_state, lasting_state}
use Rattle.model.specs.Access.{stored_by, stored_state, byte_written_state, bytes_written_state, ended_state}
use Rattle.model.specs.Start.{reset_state}
use Rattle.model.specs.Step.{Stepped, event_effect, read_effect, done_step, refused_step, answered_step, step}
use Rattle.model.specs.Outcome.{Outcome, step_outcome, unchanged_outcome, call_outcome_by, call_outcome}
use Rattle.model.specs.declared.event.Call.{Call}
use Rattle.model.specs.declared.event.Call.TheVariants.{Write, Read, Work, Hardware, Condition, Sample, Lasting, Module, Line}
use Rattle.model.specs.declared.event.Event.{Event}
use Rattle.model.specs.declared.lane.Trigger.{Trigger}
use Rattle.model.specs.declared.lane.Verdict.{Verdict}
use Rattle.model.specs.declared.lane.Verdict.TheVariants.{Pass, Reject}
use Rattle.model.specs.declared.lane.Progress.{Progress}
use Rattle.model.specs.declared.lane.Apply.{Apply}
use Rattle.model.specs.declared.lane.Working.{Working}

abbrev pub Eight : Working → Type 0
Eight w = length w.lanes ≡ lane_count

stages : (w : Working) (f : Lane → Option Progress) → Eight (with_stages w f)
unfolding with_stages
stages w f = length-tab lane_count _

ons : (w : Working) (f : Lane → OnBits) → Eight (with_ons w f)
unfolding with_ons
ons w f = length-tab lane_count _

-- ---- a write
place_eight : (p : Option Apply) (i v : ℕ) (s : State) → Eight s.working → Eight (stored_by p i v s).working
unfolding stored_by triggered_state marked_state
place_eight None i v s e = pick-has (λ (t : State). Eight t.working) _ (λ b. e) (λ b. e)
place_eight (Some a) i v s e = pick-has (λ (t : State). Eight t.working) _ (λ b. e) (λ b. stages s.working _)

byte_eight : (a v : ℕ) (s : State) → Eight s.working → Eight (byte_written_state a v s).working
unfolding byte_written_state stored_state
byte_eight a v s e = pick-has (λ (t : State). Eight t.working) _ (λ b. e) (λ b. place_eight (trigger_at _) _ v s e)

bytes_eight : (a : ℕ) (vs : List ℕ) (s : State) → Eight s.working → Eight (bytes_written_state a vs s).working
unfolding bytes_written_state
bytes_eight a [] s e = e
bytes_eight a (v ∷ vs) s e = bytes_eight (suc a) vs (byte_written_state a v s) (byte_eight a v s e)

ended_eight : (a : ℕ) (vs : List ℕ) (n : ℕ) (s : State) → Eight s.working → Eight (ended_state a vs n s).working
unfolding ended_state reset_state
ended_eight a vs n s e = pick-has (λ (t : State). Eight t.working) _ (λ b. length-tab lane_count _) (λ b. e)

-- ---- a work step
verdict_eight : (v : Verdict) (mode : Mode) (s : State) (g : LaneSet) (t : Trigger) → Eight (work_effect_by v mode s g t).state.working
unfolding work_effect_by closed_state closing_effect copied_state freed_working advanced_working
verdict_eight (Reject c) mode s g t = stages s.working _
verdict_eight (Pass n) mode s g t = pick-has (λ (c : Effect). Eight c.state.working) _ (λ b. stages s.working _) (λ b. stages s.working _)

stage_eight : (r : Option Progress) (mode : Mode) (s : State) → Eight s.working → Eight (work_effect_on r mode s).state.working
unfolding work_effect_on
stage_eight None mode s e = e
stage_eight (Some p) mode s e = verdict_eight p.verdict mode s p.group p.trigger

-- ---- any event
effect_eight : (mode : Mode) (s : State) (bytes : List ℕ) (c : Call) → Eight s.working → Eight (event_effect mode s bytes c).state.working
unfolding event_effect read_effect work_effect sampled_state lasting_state
effect_eight mode s bytes (Write a n) e = ended_eight a (take n bytes) n _ (bytes_eight a (take n bytes) s e)
effect_eight mode s bytes (Read a n) e = e
effect_eight mode s bytes (Work l) e = stage_eight (stage_at s.working l) mode s e
effect_eight mode s bytes (Hardware l) e = e
effect_eight mode s bytes (Condition flag mask) e = e
effect_eight mode s bytes (Sample l p) e = ons s.working _
effect_eight mode s bytes (Lasting flag on off) e = ons s.working _
effect_eight mode s bytes Module e = e
effect_eight mode s bytes (Line on) e = e

step_eight : (mode : Mode) (room : ℕ) (s : State) (e : Event) → Eight s.working → Eight (step mode room s e).state.working
unfolding step answered_step done_step refused_step
step_eight mode room s e h = pick-has (λ (o : Stepped). Eight o.state.working) _ (λ b. effect_eight mode s e.bytes e.call h) (λ b. h)

pub call_eight : (s : State) (buffer : List ℕ) (e : Event) → Eight s.working → Eight (call_outcome s buffer e).state.working
unfolding call_outcome call_outcome_by step_outcome unchanged_outcome
call_eight s buffer e h = pick-has (λ (o : Outcome). Eight o.state.working) _ (λ b. step_eight early (length buffer) s e h) (λ b. h)
