-- The refusals of start, from the code's tests. Assumes nothing.
use mathlib.Core.Path.{◌≡◌, ap, ◌∙◌}
use mathlib.Core.Bool.{true, false, not}
use lib.ListN.{length}
use borrow.Author.Tests.{eqb-true, eq-eqb, ne_eqb, not-false}
use Rattle.bits.proofs.Tests.{split, clash}
use Rattle.model.specs.Answers.{is_done}
use Rattle.model.specs.Map.{Image, image_length}
use Rattle.model.specs.Refusals.{first_of, is_flat, is_back_to_front, wrong_length, image_refusals, start_refusals}
use Rattle.model.specs.declared.answer.Answer.TheVariants.{Done, WrongLength, FlatMemory, BackToFront}
use Rattle.model.proofs.Refused.{first_here, first_next, first_none}

pub has-length : (x : Image) → length x ≡ image_length → wrong_length x ≡ false
unfolding wrong_length
has-length x e = ap not (eq-eqb _ _ e)

pub other_length_lem : (x : Image) → (length x ≡ image_length → ⊥) → wrong_length x ≡ true
unfolding wrong_length
other_length_lem x n = ap not (ne_eqb _ _ n)

-- 1, then 2, then 10
module _ (x : Image) where
  pub start-length : (length x ≡ image_length → ⊥) → first_of (start_refusals x) ≡ WrongLength
  unfolding start_refusals image_refusals
  start-length n = first_here _ _ _ (other_length_lem x n)

  pub start-flat : length x ≡ image_length → is_flat x ≡ true → first_of (start_refusals x) ≡ FlatMemory
  unfolding start_refusals image_refusals
  start-flat e f = first_next _ _ _ (has-length x e) ∙ first_here _ _ _ f

  pub start_turned : length x ≡ image_length → is_flat x ≡ false → is_back_to_front x ≡ true → first_of (start_refusals x) ≡ BackToFront
  unfolding start_refusals image_refusals
  start_turned e f b = first_next _ _ _ (has-length x e) ∙ first_next _ _ _ f ∙ first_here _ _ _ b

  pub start-good : length x ≡ image_length → is_flat x ≡ false → is_back_to_front x ≡ false → first_of (start_refusals x) ≡ Done
  unfolding start_refusals image_refusals
  start-good e f b = first_next _ _ _ (has-length x e) ∙ first_next _ _ _ f ∙ first_next _ _ _ b ∙ first_none

  -- what start takes has its length
  pub taken-length : is_done (first_of (start_refusals x)) ≡ true → length x ≡ image_length
  unfolding wrong_length is_done
  taken-length d = split (wrong_length x) (λ h. absurd (clash d (rw (start-length (λ e. clash h (has-length x e)))))) (λ h. eqb-true _ _ (not-false _ h))
