use borrow.Author.Rules.{rules}
use native.Mathlib.Omega.{arith}
use mathlib.Core.Path.{◌≡◌, refl, sym, ◌∙◌}
use lib.ListN.{length}
use Rattle.std.proofs.lemmas.List.{set-get_or}
use Rattle.bits.specs.Sets.{lane_count}
use Rattle.bits.proofs.Loops.{each_begin, each_turn, each_pass}
use Rattle.model.specs.Records.{idle_record, with_verdict, advanced_working}
use Rattle.records.proofs.Stages.{stages_loop}
use Rattle.model.specs.declared.lane.Verdict.TheVariants.{Pass}
use Rattle.records.proofs.advanced.Goals as goal
use Rattle.records.proofs.advanced.Goals.{then-is_in, else-is_in}

pub loop-lane-init : goal.loop-lane-init
loop-lane-init c = each_begin _ _ _

pub loop-lane-preserved : goal.loop-lane-preserved
loop-lane-preserved c =
    let l = c.loop-lane in
    let bit = c.is_in.ensures in
    elim c.if-is_in.branch [
      | then-is_in w ↦ w.record-items-is ∙ rw (w.with_stage.ensures, w.with_verdict.ensures) (each_turn _ _ _ _ _ l.invariant (sym bit ∙ w.if-is_in.true))
      | else-is_in w ↦ w.record-items-is ∙ set-get_or l.record-items l.lane idle_record ∙ each_pass _ _ _ _ _ l.invariant (sym bit ∙ w.if-is_in.false)
    ]

pub returns : goal.returns
unfolding advanced_working
returns c =
    let eight : length c.args.w.lanes ≡ lane_count = search rules in
    let e : c.loop-lane.lane ≡ lane_count = omega (arith, eight) in
    stages_loop _ (λ k s. with_verdict s (Pass c.args.n)) _ _ eight refl (rw e at c.loop-lane.invariant)
