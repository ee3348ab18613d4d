use mathlib.Core.Path.{sym, ◌∙◌}
use Rattle.bits.specs.Choice.{pick}
use Rattle.model.specs.View.{view_of}
use Rattle.model.specs.Verdicts.{release_verdict}
use Rattle.apply_verdicts.proofs.release_verdict.Goals as goal

pub returns-then-used_at : goal.returns-then-used_at
unfolding release_verdict view_of pick
returns-then-used_at c = rw (
  ← c.requires.1,
  sym c.used_at.ensures ∙ c.if-used_at.true,
  pick,
)
    c.path_release.ensures

pub returns : goal.returns
unfolding release_verdict view_of pick
returns c = rw (← c.requires.1, sym c.used_at.ensures ∙ c.if-used_at.false, pick)
