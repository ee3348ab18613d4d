use borrow.Author.Rules.{rules}
use native.Mathlib.Omega.{arith}
use Rattle.applications.proofs.Laws.{descriptor_fits}
use Rattle.applications.proofs.goes_on.Goals as goal

pub bounds-image-descriptor_at : goal.bounds-image-descriptor_at
bounds-image-descriptor_at c = let f = descriptor_fits c.descriptor_at.ensures (omega arith) in search (rules, f)
