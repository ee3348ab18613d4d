use mathlib.Core.Path.{sym, ◌∙◌}
use Rattle.model.specs.View.{view_of}
use Rattle.sound_passing.proofs.Groups.{purpose-release, purpose_path, held_first}
use Rattle.sound_passing.proofs.has_purpose.Goals as goal

pub returns-then-is_release : goal.returns-then-is_release
unfolding view_of
returns-then-is_release c = purpose-release _ _ _ (sym c.is_release.ensures ∙ c.if-is_release.true)

pub held_path-requires : goal.held_path-requires
unfolding view_of
held_path-requires c = rw c.next_in-first.ensures (held_first _ _ (sym c.is_release.ensures ∙ c.if-is_release.false))

pub returns : goal.returns
unfolding view_of
returns c = purpose_path _ _ _ _ (sym c.is_release.ensures ∙ c.if-is_release.false) (rw c.next_in-first.ensures at c.held_path.ensures)
