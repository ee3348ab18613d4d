use mathlib.Core.Path.{ap, sym, ◌∙◌}
use Rattle.model.specs.Refusals.{is_flat, is_back_to_front}
use Rattle.start_image.proofs.Refusing.{start-length, start-flat, start_turned, start-good}
use Rattle.start_image.proofs.refusal.Goals as goal

pub returns-then-image-ne-IMAGE_LENGTH : goal.returns-then-image-ne-IMAGE_LENGTH
returns-then-image-ne-IMAGE_LENGTH c = sym (start-length _ c.if-image-ne-IMAGE_LENGTH.true)

pub returns-then-is_flat : goal.returns-then-is_flat
returns-then-is_flat c =
    let same = sym c.whole-image.ensures in
    sym (start-flat _ c.if-image-ne-IMAGE_LENGTH.false (ap is_flat same ∙ sym c.is_flat.ensures ∙ c.if-is_flat.true))

pub returns-then-is_back_to_front : goal.returns-then-is_back_to_front
returns-then-is_back_to_front c =
    let same = sym c.whole-image.ensures in
    sym (start_turned _ c.if-image-ne-IMAGE_LENGTH.false
    (ap is_flat same ∙ sym c.is_flat.ensures ∙ c.if-is_flat.false)
    (ap is_back_to_front same ∙ sym c.is_back_to_front.ensures ∙ c.if-is_back_to_front.true))

pub returns : goal.returns
returns c =
    let same = sym c.whole-image.ensures in
    sym (start-good _ c.if-image-ne-IMAGE_LENGTH.false
    (ap is_flat same ∙ sym c.is_flat.ensures ∙ c.if-is_flat.false)
    (ap is_back_to_front same ∙ sym c.is_back_to_front.ensures ∙ c.if-is_back_to_front.false))
