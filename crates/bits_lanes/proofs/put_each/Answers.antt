use borrow.Author.Rules.{rules}
use mathlib.Core.Path.{sym, ap, ◌∙◌}
use lib.ListN.{length}
use Rattle.bits.proofs.Loops.{each_begin, each_turn, each_pass}
use Rattle.bits_lanes.proofs.put_each.Goals as goal
use Rattle.bits_lanes.proofs.put_each.Goals.{then-is_in, else-is_in}

pub loop-lane-init : goal.loop-lane-init
loop-lane-init c = (search rules, search rules, each_begin _ _ _)

pub loop-lane-preserved : goal.loop-lane-preserved
loop-lane-preserved c = let i = c.loop-lane.invariant in
    let bit = c.is_in.ensures in
    elim c.if-is_in.branch [
      | then-is_in w ↦ (search rules, ap length w.image-is ∙ (w.put_lane.auto.image ∙ i.1), w.image-is ∙ (w.put_lane.ensures ∙ each_turn _ _ _ _ _ i.2 (sym bit ∙ w.if-is_in.true)))
      | else-is_in w ↦ (search rules, ap length w.image-is ∙ i.1, w.image-is ∙ each_pass _ _ _ _ _ i.2 (sym bit ∙ w.if-is_in.false))
    ]
