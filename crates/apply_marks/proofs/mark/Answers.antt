use borrow.Author.Rules.{rules}
use mathlib.Core.Path.{◌≡◌, refl, sym, ◌∙◌}
use native.Mathlib.Omega.{arith}
use lib.ListN.{length}
use Rattle.std.proofs.lemmas.List.{set-get_or}
use Rattle.bits.specs.Sets.{lane_count}
use Rattle.bits.proofs.Loops.{each_begin, each_turn, each_pass}
use Rattle.model.specs.Records.{idle_record}
use Rattle.apply_marks.proofs.Laws.{all_given}
use Rattle.apply_marks.proofs.mark.Goals as goal
use Rattle.apply_marks.proofs.mark.Goals.{then-is_in, else-is_in}

pub loop-lane-init : goal.loop-lane-init
loop-lane-init c = each_begin _ _ _

pub loop-lane-preserved : goal.loop-lane-preserved
loop-lane-preserved c =
    let l = c.loop-lane in
    let bit = c.is_in.ensures in
    elim c.if-is_in.branch [
      | then-is_in t ↦ t.record-items-is ∙ rw t.with_stage.ensures (each_turn _ _ _ _ _ l.invariant (sym bit ∙ t.if-is_in.true))
      | else-is_in u ↦ u.record-items-is ∙ set-get_or l.record-items l.lane idle_record ∙ each_pass _ _ _ _ _ l.invariant (sym bit ∙ u.if-is_in.false)
    ]

pub returns : goal.returns
returns c =
    let eight : length c.args.w.lanes ≡ lane_count = search rules in
    let e : c.loop-lane.lane ≡ lane_count = omega (arith, eight) in
    all_given _ _ _ _ c.busy_lanes-busy.ensures _ _ _ c.plan-plan.ensures _ (rw e at c.loop-lane.invariant) refl refl
