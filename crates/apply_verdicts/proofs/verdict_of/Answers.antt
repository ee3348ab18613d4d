use mathlib.Core.Path.{sym, ◌∙◌}
use Rattle.bits.specs.Choice.{pick}
use Rattle.model.specs.View.{view_of}
use Rattle.model.specs.Verdicts.{verdict_of}
use Rattle.view_paths.proofs.Lanes.{id_lt, app_lt}
use Rattle.apply_verdicts.proofs.Laws.{verdict-none, release_any_set}
use borrow.Author.Rules.{rules}
use Rattle.apply_verdicts.proofs.verdict_of.Goals as goal

pub returns-then-first-ge-COUNT : goal.returns-then-first-ge-COUNT
returns-then-first-ge-COUNT c = rw c.next_in-first.ensures (verdict-none _ _ _ _ (rw (← c.next_in-first.ensures) c.if-first-ge-COUNT.true))

pub apply_verdict-requires : goal.apply_verdict-requires
apply_verdict-requires c = (search rules, rw c.id_at-id.ensures (id_lt _), rw c.app_at-app.ensures (app_lt _))

pub returns-then-used_at : goal.returns-then-used_at
unfolding verdict_of view_of pick
returns-then-used_at c = rw (
  ← c.next_in-first.ensures,
  sym c.used_at.ensures ∙ c.if-used_at.true,
  pick,
  ← c.id_at-id.ensures,
  ← c.app_at-app.ensures,
)
    c.apply_verdict.ensures

pub returns : goal.returns
unfolding verdict_of view_of pick
returns c = rw (
  ← c.next_in-first.ensures,
  sym c.used_at.ensures ∙ c.if-used_at.false,
  pick,
)
    (c.release_verdict.ensures ∙ release_any_set _ _ _ _)
