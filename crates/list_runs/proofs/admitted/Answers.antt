use mathlib.Core.Path.{refl, sym, ◌∙◌}
use borrow.Author.Tests.{lt-ltb, le-ltb}
use Rattle.bits.proofs.Tests.{pick_true, pick-false}
use Rattle.list_runs.specs.Runs.{admitted_run}
use Rattle.model.proofs.States.{not_done, is_done_lem}
use Rattle.list_runs.proofs.admitted.Goals as goal

pub returns-then-ne : goal.returns-then-ne
unfolding admitted_run
returns-then-ne c = c.refused.ensures ∙ sym (pick-false _ _ (not_done _ _ _ refl c.ne.ensures c.if-ne.true))

pub returns-then-room-n : goal.returns-then-room-n
unfolding admitted_run
returns-then-room-n c = c.refused-then-room-n.ensures
    ∙ sym (pick_true _ _ (is_done_lem _ _ _ refl c.ne.ensures c.if-ne.false) ∙ pick_true _ _ (lt-ltb _ _ c.if-room-n.true))

pub returns : goal.returns
unfolding admitted_run
returns c = rw c.reply-left.ensures
    (sym (pick_true _ _ (is_done_lem _ _ _ refl c.ne.ensures c.if-ne.false) ∙ pick-false _ _ (le-ltb _ _ c.if-room-n.false)))
