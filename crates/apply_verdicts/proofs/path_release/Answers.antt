use borrow.Author.Tests.{ne_eqb, eq-eqb}
use Rattle.bits.specs.Choice.{pick}
use Rattle.model.specs.View.{view_of}
use Rattle.model.specs.Verdicts.{path_release}
use Rattle.view_paths.proofs.Lanes.{state_at_lem}
use Rattle.apply_verdicts.proofs.path_release.Goals as goal

pub returns-then-missing : goal.returns-then-missing
unfolding path_release view_of pick
returns-then-missing c = rw (← c.requires.1, ← c.path_of.ensures, ne_eqb _ _ c.if-missing.true, pick)

pub returns-then-running : goal.returns-then-running
unfolding path_release view_of pick
returns-then-running c = rw (
  ← c.requires.1,
  ← c.path_of.ensures,
  eq-eqb _ _ c.if-missing.false,
  pick,
  state_at_lem _ _ c.requires.0,
  ← c.nibble-running.ensures,
  ne_eqb _ _ c.if-running.true,
  pick,
)

pub returns : goal.returns
unfolding path_release view_of pick
returns c = rw (
  ← c.requires.1,
  ← c.path_of.ensures,
  eq-eqb _ _ c.if-missing.false,
  pick,
  state_at_lem _ _ c.requires.0,
  ← c.nibble-running.ensures,
  eq-eqb _ _ c.if-running.false,
  pick,
)
