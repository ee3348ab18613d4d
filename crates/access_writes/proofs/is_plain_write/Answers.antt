use native.Mathlib.Omega.{arith}
use Rattle.pages.proofs.Halves.{offset-fits}
use Rattle.access_writes.proofs.Putting.{lower_plain}
use borrow.Author.Rules.{rules}
use Rattle.access_writes.proofs.is_plain_write.Goals as goal

pub returns-then-first-lt-PAGE_LENGTH : goal.returns-then-first-lt-PAGE_LENGTH
returns-then-first-lt-PAGE_LENGTH c = let s = c in lower_plain s.args.image.now s.args.address s.args.n c.if-first-lt-PAGE_LENGTH.true s.requires

pub is_plain-requires : goal.is_plain-requires
is_plain-requires c = let s = c in omega (arith, offset-fits s.args.address s.args.n s.requires)
