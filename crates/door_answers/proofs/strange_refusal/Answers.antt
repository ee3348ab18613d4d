use mathlib.Core.Path.{ap, sym, ◌∙◌}
use Rattle.model.specs.Refusals.{is_flat}
use Rattle.door_answers.proofs.Refused.{strange_length, strange_flat, strange_state}
use Rattle.door_answers.proofs.strange_refusal.Goals as goal

pub returns-then-image-ne-IMAGE_LENGTH : goal.returns-then-image-ne-IMAGE_LENGTH
returns-then-image-ne-IMAGE_LENGTH c = strange_length _ c.if-image-ne-IMAGE_LENGTH.true

pub returns-then-is_flat : goal.returns-then-is_flat
returns-then-is_flat c =
    strange_flat _ c.if-image-ne-IMAGE_LENGTH.false (ap is_flat (sym c.whole-image.ensures) ∙ sym c.is_flat.ensures ∙ c.if-is_flat.true)

pub returns : goal.returns
returns c =
    strange_state _ c.if-image-ne-IMAGE_LENGTH.false (ap is_flat (sym c.whole-image.ensures) ∙ sym c.is_flat.ensures ∙ c.if-is_flat.false)
