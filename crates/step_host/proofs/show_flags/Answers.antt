use borrow.Author.Rules.{rules}
use native.Mathlib.Omega.{arith}
use Rattle.pages.proofs.Halves.{index_fits, offset-fits}
use Rattle.step_host.proofs.Elsewhere.{none_shown}
use Rattle.step_host.proofs.show_flags.Goals as goal

pub overflow_add-address : goal.overflow_add-address
overflow_add-address c = let fits = offset-fits _ _ c.requires in omega arith

pub show_again-requires : goal.show_again-requires
show_again-requires c = rw c.index_of-i.ensures (index_fits _ _ _ (omega arith) c.requires)

pub returns-else-address-n : goal.returns-else-address-n
returns-else-address-n c = none_shown _ _ _ _ _ c.requires c.if-address-n.false
