-- A commission mask other than 0 comes from the closing step of an ApplyImmediate alone, and is its group. Assumes nothing.
use Rattle.std.proofs.Common.{None, Some, Option}
use mathlib.Core.Path.{◌≡◌, refl}
use mathlib.Core.Bool.{Bool, true, false}
use mathlib.Core.List.{List}
use mathlib.Core.Logic.{◌⊎◌, inl, inr, ◌≢◌}
use Prim.Native.Nat.{ℕ, ◌<◌}
use lib.Dec.{eqb, ltb}
use borrow.Author.Tests.{eqb-true, ltb-false, le-ltb}
use Rattle.bits.specs.Choice.{pick}
use Rattle.bits.specs.Place.{get}
use Rattle.bits.proofs.Tests.{split, clash}
use Rattle.bits.specs.Sets.{lane_count, first_in}
use Rattle.model.specs.Map.{state_at}
use Rattle.model.specs.Answers.{is_done}
use Rattle.model.specs.PathStates.{code_of, state_of, commissioned}
use Rattle.model.specs.Records.{stage_at}
use Rattle.model.specs.State.{State}
use Rattle.model.specs.Work.{early, is_release, commission_mask, closing_effect, work_effect_by, work_effect_on, work_effect}
use Rattle.model.specs.Refusals.{first_of, event_refusals}
use Rattle.model.specs.Step.{step, event_effect, done_step, refused_step, answered_step, read_effect}
use Rattle.model.specs.declared.event.Call.{Call}
use Rattle.model.specs.declared.event.Call.TheVariants.{Write, Read, Work, Hardware, Condition, Sample, Lasting, Module, Line}
use Rattle.model.specs.declared.event.Event.{Event}
use Rattle.model.specs.declared.lane.Trigger.{Trigger}
use Rattle.model.specs.declared.lane.Trigger.TheVariants.{DpInit, Immediate}
use Rattle.model.specs.declared.lane.Verdict.{Verdict}
use Rattle.model.specs.declared.lane.Verdict.TheVariants.{Pass, Reject}
use Rattle.model.specs.declared.lane.Progress.{Progress}
use Rattle.model.specs.declared.path.PathState.TheVariants.{Activated, Initialized}
use Rattle.laws_step.specs.Told.{step_on, Commissions}
use Rattle.laws_step.proofs.Stepped.{work_done}

-- the states that reach the hardware, by their codes
reaches : (n : ℕ) → commissioned (state_of n) ≡ true → (n ≡ code_of Initialized) ⊎ (n ≡ code_of Activated)
unfolding state_of commissioned pick
reaches n e = split (eqb n 1) (λ a. absurd (clash e (rw (a, pick))))
    (λ a. split (eqb n 2) (λ b. absurd (clash e (rw (a, b, pick))))
    (λ b. split (eqb n 3) (λ c. absurd (clash e (rw (a, b, c, pick))))
    (λ c. split (eqb n 4) (λ d. inr (eqb-true n 4 d))
    (λ d. split (eqb n 5) (λ f. absurd (clash e (rw (a, b, c, d, f, pick))))
    (λ f. split (eqb n 6) (λ g. absurd (clash e (rw (a, b, c, d, f, g, pick))))
    (λ g. split (eqb n 7) (λ h. inl (eqb-true n 7 h)) (λ h. absurd (clash e (rw (a, b, c, d, f, g, h, pick))))))))))

reached_by_lem : (n : ℕ) → (n ≡ code_of Initialized) ⊎ (n ≡ code_of Activated) → commissioned (state_of n) ≡ true
unfolding state_of commissioned pick
reached_by_lem n (inl e) = rw e
reached_by_lem n (inr e) = rw e

-- ---- a mask other than 0, step by step down the definitions

module _ (s : State) where
  -- of the mask itself
  mask-told : (r : Bool) (t : Trigger) (g : ℕ) → commission_mask r t s.image g ≢ 0
      → (r ≡ false) × (t ≡ Immediate) × (commissioned (state_of (get s.image (state_at (first_in g)))) ≡ true) × (commission_mask r t s.image g ≡ g)
  unfolding commission_mask pick
  mask-told true t g n = absurd (n refl)
  mask-told false DpInit g n = absurd (n refl)
  mask-told false Immediate g n = split (commissioned (state_of (get s.image (state_at (first_in g)))))
      (λ e. (refl, refl, e, rw (e, pick)))
      (λ e. absurd (n (rw (e, pick))))

  module _ (l : ℕ) (p : Progress) (i : stage_at s.working l ≡ Some p) where
    verdict-told : (v : Verdict) → p.verdict ≡ v → (work_effect_by v early s p.group p.trigger).mask ≢ 0
        → Commissions s l p × ((work_effect_by v early s p.group p.trigger).mask ≡ p.group)
    unfolding work_effect_by closing_effect pick
    verdict-told (Reject code) e n = absurd (n refl)
    verdict-told (Pass k) e n = split (ltb k lane_count)
        (λ b. absurd (n (rw (b, pick))))
        (λ b. let t = mask-told (is_release s.working p.group) p.trigger p.group (rw (b, pick) at n) in (
          record {
            next = k;
            in_progress = i;
            passes = e;
            all_copied = ltb-false k lane_count b;
            immediate = t.1;
            no_release = t.0;
            reached = reaches _ t.2;
          },
          rw (b, pick) t.3,
        ))

  stage-told : (l : ℕ) (g : Option Progress) → stage_at s.working l ≡ g → (work_effect_on g early s).mask ≢ 0
      → (p : Progress) × Commissions s l p × ((work_effect_on g early s).mask ≡ p.group)
  unfolding work_effect_on
  stage-told l None i n = absurd (n refl)
  stage-told l (Some p) i n = let r = verdict-told l p i p.verdict refl n in (p, r.0, r.1)

  call-told : (bytes : List ℕ) (c : Call) → (event_effect early s bytes c).mask ≢ 0
      → (l : ℕ) × (p : Progress) × (c ≡ Work l) × Commissions s l p × ((event_effect early s bytes c).mask ≡ p.group)
  unfolding event_effect read_effect work_effect
  call-told bytes (Write address count) n = absurd (n refl)
  call-told bytes (Read address count) n = absurd (n refl)
  call-told bytes (Work l) n = let r = stage-told l (stage_at s.working l) refl n in (l, r.0, refl, r.1, r.2)
  call-told bytes (Hardware l) n = absurd (n refl)
  call-told bytes (Condition flag mask) n = absurd (n refl)
  call-told bytes (Sample l p) n = absurd (n refl)
  call-told bytes (Lasting flag on off) n = absurd (n refl)
  call-told bytes Module n = absurd (n refl)
  call-told bytes (Line on) n = absurd (n refl)

-- a step whose mask is not 0 is a work step that closes such a group, and the mask is the group
pub commission_only : (room : ℕ) (s : State) (e : Event) → (step early room s e).mask ≢ 0
    → (l : ℕ) × (p : Progress) × (e.call ≡ Work l) × Commissions s l p × ((step early room s e).mask ≡ p.group)
unfolding step answered_step done_step refused_step pick
commission_only room s e n = split (is_done (first_of (event_refusals room s e.call)))
    (λ i. rw (i, pick) (call-told s e.bytes e.call (rw (i, pick) at n)))
    (λ i. absurd (n (rw (i, pick))))

-- and every such step reports it
pub commission_always : (room : ℕ) (s : State) (bytes : List ℕ) (l : ℕ) (p : Progress) → l < 8 → Commissions s l p
    → (step_on room s (Work l) bytes).mask ≡ p.group
unfolding done_step work_effect_by closing_effect commission_mask pick
commission_always room s bytes l p h c =
    rw (
      work_done room s bytes l p h c.in_progress,
      c.passes,
      work_effect_by,
      le-ltb c.next lane_count c.all_copied,
      pick,
      c.no_release,
      c.immediate,
      commission_mask,
      reached_by_lem _ c.reached,
    )
