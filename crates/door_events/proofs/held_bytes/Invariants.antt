use mathlib.Core.Path.{◌≡◌}
use mathlib.Core.Bool.{true}
use lib.ListN.{get_or, set}
use Rattle.bits.specs.Loop.{each, tab}
use Rattle.model.specs.Access.{write_limit}
use Rattle.door_events.proofs.held_bytes.Given as goal

abbrev pub invariant-loop-k : goal.invariant-loop-k
invariant-loop-k l = l.byte-items ≡ each (λ j. true) (λ j h. set h j (get_or l.fn.bytes j 0)) l.k (tab write_limit (λ j. 0))
