use mathlib.Core.Path.{sym}
use Rattle.access_ends.proofs.Resetting.{reset_past, reset_short, reset_here}
use Rattle.access_ends.proofs.resets.Goals as goal

pub returns-then-first-gt-MODULE_CONTROLS : goal.returns-then-first-gt-MODULE_CONTROLS
returns-then-first-gt-MODULE_CONTROLS c = sym (reset_past _ _ _ c.if-first-gt-MODULE_CONTROLS.true)

pub returns-then-bytes-k : goal.returns-then-bytes-k
returns-then-bytes-k c = sym (reset_short _ _ _ c.if-first-gt-MODULE_CONTROLS.false c.if-bytes-k.true)

pub returns : goal.returns
returns c = sym (reset_here _ _ _ _ c.if-first-gt-MODULE_CONTROLS.false c.if-bytes-k.false c.take_field.ensures)
