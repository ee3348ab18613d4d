use mathlib.Core.Path.{◌≡◌, sym, ◌∙◌}
use native.Mathlib.Omega.{arith}
use Rattle.bits.specs.Loop.{tab}
use Rattle.apply_plans.proofs.Laws.{found_own, unselected, selected_busy, selected_free, plan_pass, plan_turn, plan_first, plan_empty}
use Rattle.apply_plans.proofs.plan.Goals as goal
use Rattle.apply_plans.proofs.plan.Goals.{then-is_in+in-Some, then-is_in+in_default, else-is_in}

pub returns-then-first-ge-COUNT : goal.returns-then-first-ge-COUNT
unfolding tab
returns-then-first-ge-COUNT c = plan_empty _ _ _ _ _ _ c.next_in-first.ensures c.if-first-ge-COUNT.true

pub loop-lane-init : goal.loop-lane-init
unfolding tab
loop-lane-init c =
    let found = rw c.base-base.ensures at c.find_anew-last.ensures in
    (plan_first _ _ _ _ _ _ c.next_in-first.ensures, found_own _ _ _ _ _ _ found)

pub loop-lane-preserved : goal.loop-lane-preserved
loop-lane-preserved c =
    let i = c.loop-lane.invariant in
    let bit = c.is_in.ensures in
    let base = c.base-base.ensures in
    elim c.if-is_in.branch [
      | then-is_in+in-Some t ↦
          let found = rw base at t.find-last.ensures in (
            rw (t.marked-is, t.given-is)
                (plan_turn _ _ _ _ _ _ _ _ _ _ _ (omega arith)
                (selected_free _ _ _ _ _ _ _ (sym bit ∙ t.if-is_in.true) found t.in-Some.is)
                i.0 found t.in-Some.is t.marked_stage-stage.ensures t.with_lane-marked.ensures),
            rw t.last-is (found_own _ _ _ _ _ _ found),
          )
      | then-is_in+in_default p ↦
          let found = rw base at p.find-last.ensures in (
            rw (p.marked-is, p.given-is) (plan_pass _ _ _ _ _ _ _ (selected_busy _ _ _ _ _ _ (sym bit ∙ p.if-is_in.true) found p.in_default.is) i.0),
            rw p.last-is (found_own _ _ _ _ _ _ found),
          )
      | else-is_in u ↦ (rw (u.marked-is, u.given-is) (plan_pass _ _ _ _ _ _ _ (unselected _ _ _ _ (sym bit ∙ u.if-is_in.false)) i.0), rw u.last-is i.1)
    ]
