use mathlib.Core.Path.{sym, ap, subst}
use Rattle.contracts.specs.Forms.{IsOutcome}
use Rattle.model.specs.Answers.{is_done}
use Rattle.model.specs.Outcome.{call_outcome}
use Rattle.model.specs.State.{state_with}
use Rattle.model.proofs.States.{not_done, is_done_lem}
use Rattle.refusals.proofs.Entries.{entry_length}
use Rattle.calls.proofs.Calls.{front_whole, none_behind, call-refused, call_step}
use Rattle.calls.proofs.call.Goals as goal

pub returns-then-image-ne-IMAGE_LENGTH : goal.returns-then-image-ne-IMAGE_LENGTH
unfolding is_done
returns-then-image-ne-IMAGE_LENGTH c =
    let refused = entry_length (state_with c.args.image.now c.args.w) c.if-image-ne-IMAGE_LENGTH.true in
    call-refused _ _ _ _ _ refused (ap is_done (sym refused)) c.reply.ensures

pub returns-then-ne : goal.returns-then-ne
returns-then-ne c =
    let cut = rw c.unwrap.ensures at c.split_first_chunk_mut.ensures.cases in
    let long = c.if-image-ne-IMAGE_LENGTH.false in
    subst (λ y. IsOutcome (call_outcome (state_with c.args.image.now c.args.w) c.args.buffer.now c.args.event) c.reply-then-ne.result y c.args.buffer.now)
    (none_behind c.args.image.now _ _ long cut.1)
    (subst (λ x. IsOutcome (call_outcome (state_with x c.args.w) c.args.buffer.now c.args.event) c.reply-then-ne.result c.unwrap.result.0.now c.args.buffer.now)
    (front_whole c.args.image.now _ long cut.0)
    (call-refused _ _ _ _ _ c.refusal-answer.ensures (not_done _ _ _ c.refusal-answer.ensures c.ne.ensures c.if-ne.true) c.reply-then-ne.ensures))

pub returns : goal.returns
returns c =
    let cut = rw c.unwrap.ensures at c.split_first_chunk_mut.ensures.cases in
    let long = c.if-image-ne-IMAGE_LENGTH.false in
    subst (λ y. IsOutcome (call_outcome (state_with c.args.image.now c.args.w) c.args.buffer.now c.args.event) c.step.result y c.step.new.buffer)
    (none_behind c.args.image.now _ _ long cut.1)
    (subst (λ x. IsOutcome (call_outcome (state_with x c.args.w) c.args.buffer.now c.args.event) c.step.result c.step.new.image c.step.new.buffer)
    (front_whole c.args.image.now _ long cut.0)
    (call_step _ _ _ _ _ _ (is_done_lem _ _ _ c.refusal-answer.ensures c.ne.ensures c.if-ne.false) c.step.ensures))
