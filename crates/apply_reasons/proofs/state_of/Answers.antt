use mathlib.Core.Path.{sym, ◌∙◌}
use Rattle.view_paths.proofs.Lanes.{state_at_lem, state_past}
use Rattle.apply_reasons.proofs.state_of.Goals as goal

pub returns-then-first-lt-COUNT : goal.returns-then-first-lt-COUNT
returns-then-first-lt-COUNT c = rw (← c.next_in-first.ensures) (c.nibble.ensures ∙ sym (state_at_lem _ _ c.if-first-lt-COUNT.true))

pub returns : goal.returns
returns c = rw (← c.next_in-first.ensures) (sym (state_past _ _ c.if-first-lt-COUNT.false))
