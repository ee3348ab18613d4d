-- The test of equal states tells equality, and so the claim that nothing changes. Assumes nothing.
use Rattle.std.proofs.Common.{None, Some, Option}
use mathlib.Core.Path.{◌≡◌, refl, ap, ap₂}
use mathlib.Core.Bool.{Bool, true, false}
use mathlib.Core.List.{List, [], ◌∷◌}
use Prim.Native.Nat.{ℕ, ◌<◌}
use native.Mathlib.Omega.{arith}
use lib.ListN.{get_or}
use borrow.Author.Tests.{eqb-true}
use Rattle.bits.specs.Choice.{both, implies}
use Rattle.bits.proofs.Tests.{clash, both_l, both_r}
use Rattle.bits.proofs.Loops.{all_at}
use Rattle.model.specs.Map.{Image, setting_count}
use Rattle.model.specs.Records.{held_in}
use Rattle.model.specs.View.{setting_values}
use Rattle.model.specs.State.{State}
use Rattle.model.specs.Work.{early}
use Rattle.model.specs.Start.{started_state}
use Rattle.model.specs.Sound.{same_trigger, same_set, same_verdict, agrees, same_settings}
use Rattle.model.specs.Step.{step, ending}
use Rattle.model.specs.Outcome.{list_room}
use Rattle.model.specs.declared.event.Event.{Event}
use Rattle.model.specs.declared.lane.Settings.{Settings}
use Rattle.model.specs.declared.lane.StagedSet.{StagedSet}
use Rattle.model.specs.declared.lane.StagedSet.TheVariants.{Set0, Set1}
use Rattle.model.specs.declared.lane.Trigger.{Trigger}
use Rattle.model.specs.declared.lane.Trigger.TheVariants.{DpInit, Immediate}
use Rattle.model.specs.declared.lane.Verdict.{Verdict}
use Rattle.model.specs.declared.lane.Verdict.TheVariants.{Pass, Reject}
use Rattle.model.specs.declared.lane.Progress.{Progress}
use Rattle.model.specs.declared.lane.LaneRecord.{LaneRecord}
use Rattle.cases.specs.Same.{same_bytes, same_stage, same_records, same_line, same_state}
use Rattle.cases.specs.Case.{changes_nothing}

same_bytes_lem : (xs ys : List ℕ) → same_bytes xs ys ≡ true → xs ≡ ys
unfolding same_bytes
same_bytes_lem [] [] e = refl
same_bytes_lem [] (y ∷ ys) e = absurd (clash e refl)
same_bytes_lem (x ∷ xs) [] e = absurd (clash e refl)
same_bytes_lem (x ∷ xs) (y ∷ ys) e = ap₂ ◌∷◌ (eqb-true x y (both_l _ _ e)) (same_bytes_lem xs ys (both_r _ _ e))

same-trigger : (t u : Trigger) → same_trigger t u ≡ true → t ≡ u
unfolding same_trigger
same-trigger DpInit DpInit e = refl
same-trigger DpInit Immediate e = absurd (clash e refl)
same-trigger Immediate DpInit e = absurd (clash e refl)
same-trigger Immediate Immediate e = refl

same_set_lem : (a b : StagedSet) → same_set a b ≡ true → a ≡ b
unfolding same_set
same_set_lem Set0 Set0 e = refl
same_set_lem Set0 Set1 e = absurd (clash e refl)
same_set_lem Set1 Set0 e = absurd (clash e refl)
same_set_lem Set1 Set1 e = refl

same-verdict : (v u : Verdict) → same_verdict v u ≡ true → v ≡ u
unfolding same_verdict
same-verdict (Pass n) (Pass m) e = ap Pass (eqb-true n m e)
same-verdict (Pass n) (Reject d) e = absurd (clash e refl)
same-verdict (Reject c) (Pass m) e = absurd (clash e refl)
same-verdict (Reject c) (Reject d) e = ap Reject (eqb-true c d e)

same-settings : (h k : Settings) → same_settings h k ≡ true → h ≡ k
unfolding same_settings setting_values
same-settings h k e = λ i. record {
  config = at 0 (omega arith) i;
  adaptive = at 1 (omega arith) i;
  equalizer = at 2 (omega arith) i;
  cdr_tx = at 3 (omega arith) i;
  cdr_rx = at 4 (omega arith) i;
  pre = at 5 (omega arith) i;
  post = at 6 (omega arith) i;
  amplitude = at 7 (omega arith) i;
}
  where
    at : (j : ℕ) → j < setting_count → get_or (setting_values h) j 0 ≡ get_or (setting_values k) j 0
    at j b = eqb-true _ _ (all_at setting_count _ e j b)

same-stage : (a b : Option Progress) → same_stage a b ≡ true → a ≡ b
unfolding same_stage agrees held_in
same-stage None None e = refl
same-stage None (Some q) e = absurd (clash e refl)
same-stage (Some p) None e = absurd (clash (both_l _ _ e) refl)
same-stage (Some p) (Some q) e = ap Some alike
  where
    agreed : agrees p (Some q) ≡ true
    agreed = both_l _ _ e

    alike : p ≡ q
    alike = λ i. record {
      group = eqb-true p.group q.group (both_l _ _ agreed) i;
      held = same-settings p.held q.held (both_r _ _ e) i;
      trigger = same-trigger p.trigger q.trigger (both_l _ _ (both_r _ _ agreed)) i;
      set = same_set_lem p.set q.set (both_l _ _ (both_r _ _ (both_r _ _ agreed))) i;
      verdict = same-verdict p.verdict q.verdict (both_r _ _ (both_r _ _ (both_r _ _ agreed))) i;
    }

same-records : (ps qs : List LaneRecord) → same_records ps qs ≡ true → ps ≡ qs
unfolding same_records
same-records [] [] e = refl
same-records [] (q ∷ qs) e = absurd (clash e refl)
same-records (p ∷ ps) [] e = absurd (clash e refl)
same-records (p ∷ ps) (q ∷ qs) e =
    ap₂ ◌∷◌ (λ i. record {
      stage = same-stage p.stage q.stage (both_l _ _ (both_l _ _ e)) i;
      on = eqb-true p.on q.on (both_r _ _ (both_l _ _ e)) i;
    }) (same-records ps qs (both_r _ _ e))

same_line_lem : (a b : Bool) → same_line a b ≡ true → a ≡ b
unfolding same_line both implies
same_line_lem true true e = refl
same_line_lem true false e = absurd (clash e refl)
same_line_lem false true e = absurd (clash e refl)
same_line_lem false false e = refl

-- states that pass the test are equal, whole
pub same-state : (s t : State) → same_state s t ≡ true → s ≡ t
unfolding same_state
same-state s t e = λ i. record {
  image = same_bytes_lem s.image t.image (both_l _ _ e) i;
  working = record {
    lanes = same-records s.working.lanes t.working.lanes (both_l _ _ (both_r _ _ e)) i;
    line = same_line_lem s.working.line t.working.line (both_r _ _ (both_r _ _ e)) i;
  };
}

-- what a case says with `changes_nothing`: the whole state after the event is the one before it
pub nothing_changed : (x : Image) (es : List Event) (e : Event) → changes_nothing x es e ≡ true
    → (step early list_room (ending early list_room (started_state x) es) e).state ≡ ending early list_room (started_state x) es
unfolding changes_nothing
nothing_changed x es e h = same-state _ _ (both_r _ _ h)
