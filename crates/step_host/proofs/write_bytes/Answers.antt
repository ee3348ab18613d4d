use mathlib.Core.Path.{sym, ◌∙◌}
use Rattle.step_host.proofs.Ends.{plain_ended}
use Rattle.step_host.proofs.write_bytes.Goals as goal

pub returns-then-is_plain_write : goal.returns-then-is_plain_write
returns-then-is_plain_write c = let s = c in
    plain_ended _ _ _ _ _ s.requires (sym c.is_plain_write.ensures ∙ c.if-is_plain_write.true) c.write_plain.ensures
