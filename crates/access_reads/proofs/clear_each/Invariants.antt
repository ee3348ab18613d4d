use borrow.Rule.Slice.PartMut.{put_mid}
use mathlib.Core.Path.{◌≡◌}
use Prim.Native.Nat.{◌+◌, ◌-◌}
use lib.ListN.{set}
use Rattle.bits.specs.Loop.{each}
use Rattle.model.specs.Map.{clearing}
use Rattle.access_reads.proofs.clear_each.Given as goal

abbrev pub invariant-loop-k : goal.invariant-loop-k
invariant-loop-k l = put_mid l.i (l.i + l.n - l.i) l.fn.image l.byte-items ≡ each (λ j. clearing (l.i + j)) (λ j y. set y (l.i + j) 0) l.k l.fn.image
