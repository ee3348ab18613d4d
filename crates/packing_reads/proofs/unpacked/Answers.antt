use mathlib.Core.Path.{sym, ap, ◌∙◌}
use mathlib.Core.Bool.{not}
use mathlib.Core.Logic.{◌≢◌}
use Prim.Native.Nat.{◌<◌}
use native.Mathlib.Omega.{arith}
use borrow.Author.Count.{below_more}
use lib.Dec.{eqb}
use lib.ListN.{length, get_or, length-set}
use lib.Seq.{ext_get_or, get_or-set_same, get_or-set_other}
use Rattle.bits.specs.Sets.{lane_count}
use Rattle.bits.proofs.Loops.{tab_at, length-tab}
use Rattle.model.specs.Records.{idle_record}
use Rattle.packing.specs.Packing.{record_from, line_index, unpacked}
use Rattle.packing_reads.proofs.unpacked.Goals as goal

pub loop-lane-preserved : goal.loop-lane-preserved
loop-lane-preserved c =
    let now = c.loop-lane in
    let lt : now.lane < length now.record-items = omega (arith, now.invariant.lanes) in
    record {
      lanes = simp length-set now.invariant.lanes;
      read = below_more _ _
          (λ k h. let ne : k ≢ now.lane = omega arith in rw get_or-set_other (now.invariant.read k h))
          (rw (get_or-set_same _ _ _ _ lt) (c.record_from.ensures ∙ ap record_from c.lane_bytes.ensures));
    }

pub returns : goal.returns
unfolding unpacked
returns c =
    let now = c.loop-lane in
    let lanes = ext_get_or idle_record _ _ (now.invariant.lanes ∙ sym (length-tab lane_count _))
    (λ l h. now.invariant.read l (omega arith) ∙ sym (tab_at lane_count _ l idle_record (omega arith))) in
    λ i. record { lanes = lanes i; line = not (eqb (get_or c.args.state.now line_index 0) 0) }
