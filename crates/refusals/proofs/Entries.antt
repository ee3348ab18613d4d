-- The refusals of an entry from the code's tests. Assumes nothing.
use mathlib.Core.Path.{◌≡◌, ap, sym, ◌∙◌}
use mathlib.Core.Bool.{true, false, not}
use lib.ListN.{length}
use borrow.Author.Tests.{eqb-true, eq-eqb, not-false}
use Rattle.model.specs.Map.{image_length}
use Rattle.bits.proofs.Tests.{split, clash}
use Rattle.model.specs.Answers.{is_done}
use Rattle.model.specs.State.{State}
use Rattle.model.specs.Sound.{is_sound}
use Rattle.model.specs.Refusals.{first_of, is_flat, wrong_length, image_refusals, entry_refusals}
use Rattle.model.specs.declared.answer.Answer.TheVariants.{Done, WrongLength, FlatMemory, Unsound}
use Rattle.model.proofs.Refused.{first_here, first_next, first_none}
use Rattle.start_image.proofs.Refusing.{has-length, other_length_lem}

-- 1, 2, then 3
module _ (s : State) where
  pub entry_length : (length s.image ≡ image_length → ⊥) → WrongLength ≡ first_of (entry_refusals s)
  unfolding entry_refusals image_refusals
  entry_length n = sym (first_here _ _ _ (other_length_lem s.image n))

  pub entry_flat : length s.image ≡ image_length → is_flat s.image ≡ true → FlatMemory ≡ first_of (entry_refusals s)
  unfolding entry_refusals image_refusals
  entry_flat e f = sym (first_next _ _ _ (has-length s.image e) ∙ first_here _ _ _ f)

  pub entry_unsound : length s.image ≡ image_length → is_flat s.image ≡ false → is_sound s ≡ false → Unsound ≡ first_of (entry_refusals s)
  unfolding entry_refusals image_refusals
  entry_unsound e f n = sym (first_next _ _ _ (has-length s.image e) ∙ first_next _ _ _ f ∙ first_here _ _ _ (ap not n))

  pub entry_good : length s.image ≡ image_length → is_flat s.image ≡ false → is_sound s ≡ true → Done ≡ first_of (entry_refusals s)
  unfolding entry_refusals image_refusals
  entry_good e f n = sym (first_next _ _ _ (has-length s.image e) ∙ first_next _ _ _ f ∙ first_next _ _ _ (ap not n) ∙ first_none)

  -- what is not refused has its length
  pub entered_length : is_done (first_of (entry_refusals s)) ≡ true → length s.image ≡ image_length
  unfolding wrong_length is_done
  entered_length d = split (wrong_length s.image)
      (λ h. absurd (clash d (rw (← entry_length (λ e. clash h (ap not (eq-eqb _ _ e)))))))
      (λ h. eqb-true _ _ (not-false _ h))
