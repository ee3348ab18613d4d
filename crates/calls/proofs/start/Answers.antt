use mathlib.Core.List.{[]}
use mathlib.Core.Path.{sym, ap, subst}
use Rattle.contracts.specs.Forms.{IsOutcome}
use Rattle.model.specs.Answers.{is_done}
use Rattle.model.specs.Outcome.{start_outcome}
use Rattle.model.proofs.States.{not_done, is_done_lem}
use Rattle.start_image.proofs.Refusing.{start-length}
use Rattle.calls.proofs.Calls.{front_whole, none_behind, start-refused, start_done}
use Rattle.calls.proofs.start.Goals as goal

pub returns-then-image-ne-IMAGE_LENGTH : goal.returns-then-image-ne-IMAGE_LENGTH
unfolding is_done
returns-then-image-ne-IMAGE_LENGTH c =
    let refused = start-length c.args.image.now c.if-image-ne-IMAGE_LENGTH.true in
    start-refused _ _ _ (sym refused) (ap is_done refused) (rw c.idle-idle.ensures at c.reply.ensures)

pub returns-then-ne : goal.returns-then-ne
returns-then-ne c =
    let cut = rw c.unwrap.ensures at c.split_first_chunk_mut.ensures.cases in
    let long = c.if-image-ne-IMAGE_LENGTH.false in
    subst (λ y. IsOutcome (start_outcome c.args.image.now) c.reply-then-ne.result y [])
    (none_behind c.args.image.now _ _ long cut.1)
    (subst (λ x. IsOutcome (start_outcome x) c.reply-then-ne.result c.unwrap.result.0.now [])
    (front_whole c.args.image.now _ long cut.0)
    (start-refused _ _ _ c.refusal-answer.ensures (not_done _ _ _ c.refusal-answer.ensures c.ne.ensures c.if-ne.true) (rw c.idle-idle.ensures at c.reply-then-ne.ensures)))

pub returns : goal.returns
returns c =
    let cut = rw c.unwrap.ensures at c.split_first_chunk_mut.ensures.cases in
    let long = c.if-image-ne-IMAGE_LENGTH.false in
    subst (λ y. IsOutcome (start_outcome c.args.image.now) c.reply-2.result y [])
    (none_behind c.args.image.now _ _ long cut.1)
    (subst (λ x. IsOutcome (start_outcome x) c.reply-2.result c.reset.new.image [])
    (front_whole c.args.image.now _ long cut.0)
    (start_done _ _ _ _ c.refusal-answer.ensures (is_done_lem _ _ _ c.refusal-answer.ensures c.ne.ensures c.if-ne.false) c.reset.ensures (rw c.idle-idle.ensures at c.reply-2.ensures)))
