use borrow.Author.Rules.{rules}
use native.Mathlib.Omega.{arith}
use mathlib.Core.Path.{◌≡◌, refl}
use mathlib.Core.Bool.{true}
use lib.ListN.{length}
use Rattle.bits.specs.Choice.{pick}
use Rattle.bits.specs.Sets.{lane_count}
use Rattle.bits.proofs.Loops.{each_begin, each_turn}
use Rattle.model.specs.Records.{with_on}
use Rattle.model.specs.Flags.{condition_on}
use Rattle.flags_lasting.proofs.Ons.{ons_loop, condition_by}
use Rattle.flags_lasting.proofs.after_condition.Goals as goal

pub loop-lane-init : goal.loop-lane-init
loop-lane-init c = each_begin _ _ _

pub loop-lane-preserved : goal.loop-lane-preserved
unfolding with_on
loop-lane-preserved c =
    rw (condition_by _ _ _ _ _ _ _ _ _ c.is_on-was.ensures c.is_in-ends.ensures c.is_in-begins.ensures c.with_flag-record.ensures)
    (each_turn _ _ _ _ _ c.loop-lane.invariant refl)

pub returns : goal.returns
unfolding pick
returns c =
    let eight : length c.args.w.lanes ≡ lane_count = search rules in
    let e : c.loop-lane.lane ≡ lane_count = omega (arith, eight) in
    ons_loop (λ l. true) (condition_on c.args.flag c.args.on c.args.off) _ _ eight refl (rw e at c.loop-lane.invariant)
