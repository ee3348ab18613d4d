use mathlib.Core.Path.{◌≡◌}
use Prim.Native.Nat.{◌-◌, ◌≤◌}
use lib.ListN.{length}
use Rattle.model.specs.File.{later_editions, edition_among}
use Rattle.pieces_records.specs.Running.{runs, running}
use Rattle.pieces_records.proofs.play.Given as goal

abbrev pub invariant-loop-next : goal.invariant-loop-next
invariant-loop-next l =
    record {
      within : l.taken ≤ length l.bytes;
      fits : l.reached.at ≤ length l.out;
      same : runs (edition_among later_editions l.edition) (l.records - l.next) (running (record { taken = l.taken; next = l.next; reached = l.reached }) l.image l.out) l.bytes
          ≡ runs (edition_among later_editions l.edition) (l.records - l.fn.p.next) (running l.fn.p l.initial.image l.initial.out) l.bytes;
    }
