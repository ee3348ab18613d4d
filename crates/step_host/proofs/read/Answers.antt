use borrow.Author.Rules.{rules}
use mathlib.Core.Path.{refl, sym, ap, ◌∙◌}
use Rattle.model.specs.Answers.{is_done}
use Rattle.model.specs.Step.{event_effect, read_effect}
use Rattle.model.specs.declared.answer.Answer.TheVariants.{BadAccess, ShortBuffer}
use Rattle.access_limits.proofs.Halves.{good_access}
use Rattle.step_answers.proofs.Outcomes.{refused_leaves, done_leaves}
use Rattle.step_answers.proofs.Answered.{read_bad, read_short, read_done}
use Rattle.step_host.proofs.Ends.{read_shown}
use Rattle.step_host.proofs.read.Goals as goal

pub returns-then-bad_access : goal.returns-then-bad_access
unfolding is_done
returns-then-bad_access c = refused_leaves _ _ _ _ BadAccess _ (read_bad _ _ _ _ (sym c.bad_access.ensures ∙ c.if-bad_access.true)) refl c.reply.ensures

pub returns-then-buffer-n : goal.returns-then-buffer-n
unfolding is_done
returns-then-buffer-n c = refused_leaves _ _ _ _ ShortBuffer _
    (read_short _ _ _ _ (sym c.bad_access.ensures ∙ c.if-bad_access.false) c.if-buffer-n.true)
    refl c.reply-then-buffer-n.ensures

pub read-requires : goal.read-requires
unfolding is_done
read-requires c = let g = good_access 128 _ _ (sym c.bad_access.ensures ∙ c.if-bad_access.false) in search rules

pub show_flags-requires : goal.show_flags-requires
show_flags-requires c = let g = good_access 128 _ _ (sym c.bad_access.ensures ∙ c.if-bad_access.false) in
    g.1

pub returns : goal.returns
unfolding event_effect read_effect
returns c = let good = sym c.bad_access.ensures ∙ c.if-bad_access.false in
    let w = c.read.ensures in
    let again = c.show_flags.ensures in
    let r = c.reply-2.ensures in
    done_leaves _ _ _ _ _ _ _ _ _ (read_done _ _ _ _ good c.if-buffer-n.false) refl (ap (λ t. t.answer) r)
    (read_shown _ _ _ _ _ _ w.image again)
    c.settle.ensures (ap (λ t. t.working) r) w.bytes (ap (λ t. t.mask) r)
