-- What is on after each event: a lasting condition and a sample of the lane have their say, and nothing else changes it. Assumes nothing.
use mathlib.Core.Path.{◌≡◌, refl, ap, ◌∙◌}
use mathlib.Core.Bool.{false}
use mathlib.Core.List.{List}
use mathlib.Core.Logic.{◌⊎◌, inl, inr, ◌≢◌}
use Prim.Native.Nat.{ℕ, ◌≤◌, ◌<◌}
use native.Mathlib.Omega.{arith}
use borrow.Author.Tests.{eq-eqb}
use Rattle.bits.specs.Sets.{has}
use Rattle.bits.proofs.Tests.{split, clash, pick_true, pick-false}
use Rattle.model.specs.Map.{lasting_index, high_alarm_flag, low_alarm_flag, high_warning_flag, low_warning_flag}
use Rattle.model.specs.Answers.{is_done}
use Rattle.model.specs.Records.{stage_at, on_at}
use Rattle.model.specs.State.{State}
use Rattle.model.specs.Work.{early}
use Rattle.model.specs.Flags.{condition_on, lasting_state, above_alarm, below_alarm, above_warning, below_warning, sampled_on, sampled_state}
use Rattle.model.specs.Step.{event, event_effect, done_step, step}
use Rattle.model.specs.declared.answer.Answer.TheVariants.{Done}
use Rattle.model.specs.declared.event.Call.{Call}
use Rattle.model.specs.declared.event.Call.TheVariants.{Write, Read, Work, Hardware, Condition, Sample, Lasting, Module, Line}
use Rattle.model.specs.declared.event.Event.{Event}
use Rattle.model.proofs.Lasting.{flag_now, flag_other}
use Rattle.laws.proofs.Unchanged.{done_is}
use Rattle.laws_frames.specs.Frames.{on_after}
use Rattle.laws_frames.proofs.Stages.{stage-kept}
use Rattle.laws_frames.proofs.Lasting.{event-on}
use Rattle.laws_step.specs.Told.{step_on, LastingTold, SampleOn, may_turn}
use Rattle.laws_step.proofs.Stepped.{done_step_lem, refused-step}
use Rattle.laws_step.proofs.Sensing.{is_lane_lem}

-- what a step that is done leaves of what is on
on_done : (room : ℕ) (s : State) (e : Event) → (step early room s e).answer ≡ Done → (l : ℕ) → l < 8
    → on_at (step early room s e).state.working l ≡ on_after s e.bytes e.call l
unfolding done_step
on_done room s e d l h = rw (done_step_lem room s e d) (event-on l h early s e.bytes e.call)

-- ---- nothing else

call_keeps_on : (s : State) (bytes : List ℕ) (c : Call) (l : ℕ) → may_turn bytes c l ≡ false → on_after s bytes c l ≡ on_at s.working l
unfolding may_turn on_after
call_keeps_on s bytes (Write address count) l n = pick-false _ _ n
call_keeps_on s bytes (Read address count) l n = refl
call_keeps_on s bytes (Work m) l n = refl
call_keeps_on s bytes (Hardware m) l n = refl
call_keeps_on s bytes (Condition flag mask) l n = refl
call_keeps_on s bytes (Sample m p) l n = pick-false _ _ n
call_keeps_on s bytes (Lasting flag on off) l n = absurd (clash refl n)
call_keeps_on s bytes Module l n = refl
call_keeps_on s bytes (Line on) l n = refl

-- no other event, done or refused, changes what is on: no write with its triggers but a reset, no read, no work step, no hardware event, no condition that comes once
pub on-kept : (room : ℕ) (s : State) (e : Event) (l : ℕ) → l < 8 → may_turn e.bytes e.call l ≡ false
    → on_at (step early room s e).state.working l ≡ on_at s.working l
unfolding is_done
on-kept room s e l h n = split (is_done (step early room s e).answer)
    (λ d. on_done room s e (done_is _ d) l h ∙ call_keeps_on s e.bytes e.call l n)
    (λ d. rw (refused-step room s e (λ q. clash (ap is_done q) d)))

-- ---- a lasting condition

module _ (room : ℕ) (s : State) (bytes : List ℕ) (flag on off : ℕ) (d : (step_on room s (Lasting flag on off) bytes).answer ≡ Done) where
  -- every lane's flags that are on
  pub lasting-told : (l : ℕ) → l < 8 → LastingTold flag on off l s.working (step_on room s (Lasting flag on off) bytes).state.working
  unfolding on_after condition_on
  lasting-told l h =
      let e = on_done room s (event (Lasting flag on off) bytes) d l h in
      record {
        named = ap (λ b. has b (lasting_index flag)) e ∙ flag_now (lasting_index flag) _ _;
        others = λ k n. ap (λ b. has b k) e ∙ flag_other (lasting_index flag) _ _ k n;
      }

  pub lasting_keeps_stages : (l : ℕ) → l < 8 → stage_at (step_on room s (Lasting flag on off) bytes).state.working l ≡ stage_at s.working l
  unfolding done_step event_effect lasting_state
  lasting_keeps_stages l h = rw (done_step_lem room s (event (Lasting flag on off) bytes) d) (stage-kept s.working _ l h)

-- ---- a sample

-- the flags of received power by their index
abbrev high_alarm : ℕ
high_alarm = lasting_index high_alarm_flag

abbrev low_alarm : ℕ
low_alarm = lasting_index low_alarm_flag

abbrev high_warning : ℕ
high_warning = lasting_index high_warning_flag

abbrev low_warning : ℕ
low_warning = lasting_index low_warning_flag

-- an index outside of them
outside : (k j : ℕ) → (k < high_alarm) ⊎ (low_warning < k) → high_alarm ≤ j → j ≤ low_warning → k ≢ j
outside k j (inl a) p q = omega arith
outside k j (inr a) p q = omega arith

module _ (room : ℕ) (s : State) (bytes : List ℕ) (l p : ℕ) (d : (step_on room s (Sample l p) bytes).answer ≡ Done) where
  -- its lane's flags that are on; every other lane's are as they were, by on-kept
  pub sampled_on_lem : SampleOn l p s.image s.working (step_on room s (Sample l p) bytes).state.working
  unfolding on_after sampled_on
  sampled_on_lem =
      let e = on_done room s (event (Sample l p) bytes) d l (is_lane_lem room s bytes l p d) ∙ pick_true _ _ (eq-eqb l l refl) in
      record {
        above_alarm = ap (λ b. has b high_alarm) e ∙ flag_other low_warning _ _ high_alarm (omega arith) ∙ flag_other high_warning _ _ high_alarm (omega arith)
            ∙ flag_other low_alarm _ _ high_alarm (omega arith) ∙ flag_now high_alarm _ _;
        below_alarm = ap (λ b. has b low_alarm) e ∙ flag_other low_warning _ _ low_alarm (omega arith) ∙ flag_other high_warning _ _ low_alarm (omega arith) ∙ flag_now low_alarm _ _;
        above_warning = ap (λ b. has b high_warning) e ∙ flag_other low_warning _ _ high_warning (omega arith) ∙ flag_now high_warning _ _;
        below_warning = ap (λ b. has b low_warning) e ∙ flag_now low_warning _ _;
        others = λ k o. ap (λ b. has b k) e ∙ flag_other low_warning _ _ k (outside k low_warning o (omega arith) (omega arith))
            ∙ flag_other high_warning _ _ k (outside k high_warning o (omega arith) (omega arith))
            ∙ flag_other low_alarm _ _ k (outside k low_alarm o (omega arith) (omega arith))
            ∙ flag_other high_alarm _ _ k (outside k high_alarm o (omega arith) (omega arith));
      }

  pub sampled_keeps_stages : (m : ℕ) → m < 8 → stage_at (step_on room s (Sample l p) bytes).state.working m ≡ stage_at s.working m
  unfolding done_step event_effect sampled_state
  sampled_keeps_stages m b = rw (done_step_lem room s (event (Sample l p) bytes) d) (stage-kept s.working _ m b)
