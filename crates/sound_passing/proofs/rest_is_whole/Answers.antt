use mathlib.Core.Bool.{not}
use mathlib.Core.Path.{ap}
use mathlib.Core.Path.{sym, ◌∙◌}
use borrow.Author.Tests.{not-true, not-false}
use Rattle.sound_passing.proofs.Groups.{rest-unused, rest-next, rest_path}
use Rattle.sound_passing.proofs.rest_is_whole.Goals as goal

pub returns-then-not-some_used : goal.returns-then-not-some_used
returns-then-not-some_used c = rest-unused _ _ _ (rw c.not_copied-rest.ensures at (sym c.some_used.ensures ∙ not-true _ (ap not c.if-not-some_used.true)))

pub next_in-first-requires : goal.next_in-first-requires
next_in-first-requires c = (rest-next _ _ _ (rw c.not_copied-rest.ensures at (sym c.some_used.ensures ∙ not-false _ (ap not c.if-not-some_used.false)))).0

pub active_path-requires : goal.active_path-requires
active_path-requires c = rw c.next_in-first.ensures (rest-next _ _ _ (rw c.not_copied-rest.ensures at (sym c.some_used.ensures ∙ not-false _ (ap not c.if-not-some_used.false)))).1

pub returns : goal.returns
returns c = rest_path _ _ _ _
    (rw c.not_copied-rest.ensures at (sym c.some_used.ensures ∙ not-false _ (ap not c.if-not-some_used.false)))
    (rw (c.not_copied-rest.ensures, c.next_in-first.ensures) at c.active_path.ensures)
