use mathlib.Core.Path.{◌≡◌}
use Prim.Native.Nat.{ℕ, ◌<◌}
use lib.ListN.{length, get_or}
use Rattle.bits.specs.Sets.{lane_count}
use Rattle.model.specs.Records.{idle_record}
use Rattle.packing.specs.Packing.{record_from, lane_bytes}
use Rattle.packing_reads.proofs.unpacked.Given as goal

abbrev pub invariant-loop-lane : goal.invariant-loop-lane
invariant-loop-lane now =
    record {
      lanes : length now.record-items ≡ lane_count;
      read : (l : ℕ) → l < now.lane → get_or now.record-items l idle_record ≡ record_from (lane_bytes now.state l);
    }
