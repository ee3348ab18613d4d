use native.Mathlib.Omega.{arith}
use mathlib.Core.Path.{sym, ◌∙◌}
use Rattle.model.specs.File.{record_limit}
use Rattle.night_file.proofs.Checks.{framed_length, header_few, finds_no_frame, finds_no_record, finds_refused, finds_good}
use Rattle.night_file.proofs.Cuts.{night_fits}
use Rattle.night_file.proofs.check.Goals as goal

pub returns-then-not-is_framed : goal.returns-then-not-is_framed
returns-then-not-is_framed c = sym (finds_no_frame record_limit _ (sym c.is_framed.ensures ∙ c.if-not-is_framed.true))

pub parts-night-requires : goal.parts-night-requires
parts-night-requires c = framed_length record_limit _ (sym c.is_framed.ensures ∙ c.if-not-is_framed.false)

pub returns-then-not-are_records : goal.returns-then-not-are_records
returns-then-not-are_records c = sym (finds_no_record record_limit _ _ _ _ c.parts-night.ensures (sym c.are_records.ensures ∙ c.if-not-are_records.true))

pub image_refusal-answer-requires : goal.image_refusal-answer-requires
image_refusal-answer-requires c = night_fits c.parts-night.ensures

pub returns-then-ne : goal.returns-then-ne
returns-then-ne c =
    let framed = sym c.is_framed.ensures ∙ c.if-not-is_framed.false in
    let records = sym c.are_records.ensures ∙ c.if-not-are_records.false in
    sym (finds_refused record_limit _ _ _ _ c.parts-night.ensures framed records _ _ c.image_refusal-answer.ensures c.ne.ensures c.if-ne.true)

pub overflow_cast-result : goal.overflow_cast-result
overflow_cast-result c =
    let few = header_few record_limit c.args.file.now (sym c.is_framed.ensures ∙ c.if-not-is_framed.false) in
    omega (arith, c.parts-night.ensures.counted)

pub returns : goal.returns
returns c =
    let framed = sym c.is_framed.ensures ∙ c.if-not-is_framed.false in
    let records = sym c.are_records.ensures ∙ c.if-not-are_records.false in
    sym (finds_good record_limit _ _ _ _ c.parts-night.ensures framed records _ _ c.image_refusal-answer.ensures c.ne.ensures c.if-ne.false)
