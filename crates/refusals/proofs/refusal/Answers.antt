use mathlib.Core.Bool.{not}
use mathlib.Core.Path.{ap, sym, ◌∙◌}
use borrow.Author.Tests.{not-true, not-false}
use Rattle.model.specs.Refusals.{is_flat}
use Rattle.model.specs.Sound.{is_sound}
use Rattle.model.specs.State.{state_with}
use Rattle.refusals.proofs.Entries.{entry_length, entry_flat, entry_unsound, entry_good}
use Rattle.refusals.proofs.refusal.Goals as goal

pub returns-then-image-ne-IMAGE_LENGTH : goal.returns-then-image-ne-IMAGE_LENGTH
returns-then-image-ne-IMAGE_LENGTH c = entry_length _ c.if-image-ne-IMAGE_LENGTH.true

pub returns-then-is_flat : goal.returns-then-is_flat
returns-then-is_flat c =
    let same = sym c.whole-image.ensures in
    entry_flat _ c.if-image-ne-IMAGE_LENGTH.false (ap is_flat same ∙ sym c.is_flat.ensures ∙ c.if-is_flat.true)

pub returns-then-not-is_sound : goal.returns-then-not-is_sound
returns-then-not-is_sound c =
    let same = sym c.whole-image.ensures in
    entry_unsound _ c.if-image-ne-IMAGE_LENGTH.false
    (ap is_flat same ∙ sym c.is_flat.ensures ∙ c.if-is_flat.false)
    (ap (λ x. is_sound (state_with x c.args.w)) same ∙ sym c.is_sound.ensures ∙ not-true _ (ap not c.if-not-is_sound.true))

pub returns : goal.returns
returns c =
    let same = sym c.whole-image.ensures in
    entry_good _ c.if-image-ne-IMAGE_LENGTH.false
    (ap is_flat same ∙ sym c.is_flat.ensures ∙ c.if-is_flat.false)
    (ap (λ x. is_sound (state_with x c.args.w)) same ∙ sym c.is_sound.ensures ∙ not-false _ (ap not c.if-not-is_sound.false))
