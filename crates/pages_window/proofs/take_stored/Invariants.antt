use mathlib.Core.List.{◌++◌}
use mathlib.Core.Path.{◌≡◌}
use lib.ListN.{drop}
use Rattle.model.specs.Access.{taken_bytes}
use Rattle.model.specs.Outcome.{laid_over}
use Rattle.pages_window.proofs.take_stored.Given as goal

abbrev pub invariant-loop-k : goal.invariant-loop-k
invariant-loop-k l = l.byte-items ++ drop l.count l.fn.buffer ≡ laid_over (taken_bytes l.image l.first l.k) l.fn.buffer
