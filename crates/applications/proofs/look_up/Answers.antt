use native.Mathlib.Omega.{arith}
use Rattle.applications.proofs.Laws.{descriptor_fits, below_first, above_last, found_by, missing_by}
use borrow.Author.Rules.{rules}
use Rattle.applications.proofs.look_up.Goals as goal

pub returns-then-app-eq0 : goal.returns-then-app-eq0
returns-then-app-eq0 c = below_first _ _ c.if-app-eq0.true

pub returns-then-app-gt-COUNT : goal.returns-then-app-gt-COUNT
returns-then-app-gt-COUNT c = above_last _ _ c.if-app-gt-COUNT.true

pub overflow_add-at : goal.overflow_add-at
overflow_add-at c = let f = descriptor_fits c.descriptor_at-at.ensures (omega arith) in search (rules, f)

pub bounds-image-at : goal.bounds-image-at
bounds-image-at c = let f = descriptor_fits c.descriptor_at-at.ensures (omega arith) in search (rules, f)

pub overflow_add-firsts : goal.overflow_add-firsts
overflow_add-firsts c = let f = descriptor_fits c.descriptor_at-at.ensures (omega arith) in search (rules, f)

pub bounds-image-at-then-reaches-count : goal.bounds-image-at-then-reaches-count
bounds-image-at-then-reaches-count c = let f = descriptor_fits c.descriptor_at-at.ensures (omega arith) in search (rules, f)

pub returns-then-reaches-count : goal.returns-then-reaches-count
returns-then-reaches-count c = found_by _ _ _ _ _ (omega arith) (omega arith) c.descriptor_at-at.ensures
    c.take_field-count.ensures c.list_reaches-reaches.ensures c.if-reaches-count.true

pub returns : goal.returns
returns c = missing_by _ _ _ _ _ (omega arith) (omega arith) c.descriptor_at-at.ensures
    c.take_field-count.ensures c.list_reaches-reaches.ensures c.if-reaches-count.false
