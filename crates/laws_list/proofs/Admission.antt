-- The refusals of a list of events: those of an entry, and then 5. Assumes nothing.
use mathlib.Core.Path.{◌≡◌, refl, ◌∙◌}
use mathlib.Core.Bool.{Bool, true, false}
use mathlib.Core.List.{[], ◌∷◌}
use Prim.Native.Nat.{ℕ, ◌≤◌}
use lib.Dec.{ltb}
use lib.ListN.{length}
use borrow.Author.Tests.{eqb-true, ltb-false, not-false}
use Rattle.model.specs.Map.{image_length}
use Rattle.bits.specs.Choice.{pick}
use Rattle.bits.proofs.Tests.{clash, pick_true, pick-false}
use Rattle.model.specs.Answers.{is_done}
use Rattle.model.specs.State.{State}
use Rattle.model.specs.Refusals.{refuse, first_of, wrong_length, image_refusals, entry_refusals, list_refusals}
use Rattle.model.specs.declared.answer.Answer.TheVariants.{Done, WrongLength, FlatMemory, Unsound, ShortBuffer}

three_done : (a b c d : Bool) → is_done (first_of (refuse WrongLength a ∷ refuse FlatMemory b ∷ refuse Unsound c ∷ [])) ≡ true
    → first_of (refuse WrongLength a ∷ refuse FlatMemory b ∷ refuse Unsound c ∷ refuse ShortBuffer d ∷ []) ≡ pick d ShortBuffer Done
unfolding first_of pick is_done
three_done true b c d e = absurd (clash e refl)
three_done false true c d e = absurd (clash e refl)
three_done false false true d e = absurd (clash e refl)
three_done false false false d e = refl

three-refused : (a b c d : Bool) → is_done (first_of (refuse WrongLength a ∷ refuse FlatMemory b ∷ refuse Unsound c ∷ [])) ≡ false
    → first_of (refuse WrongLength a ∷ refuse FlatMemory b ∷ refuse Unsound c ∷ refuse ShortBuffer d ∷ [])
    ≡ first_of (refuse WrongLength a ∷ refuse FlatMemory b ∷ refuse Unsound c ∷ [])
unfolding first_of pick is_done
three-refused true b c d e = refl
three-refused false true c d e = refl
three-refused false false true d e = refl
three-refused false false false d e = absurd (clash refl e)

four_done : (a b c d : Bool) → is_done (first_of (refuse WrongLength a ∷ refuse FlatMemory b ∷ refuse Unsound c ∷ refuse ShortBuffer d ∷ [])) ≡ true
    → (a ≡ false) × (d ≡ false)
unfolding first_of pick is_done
four_done true b c d e = absurd (clash e refl)
four_done false true c d e = absurd (clash e refl)
four_done false false true d e = absurd (clash e refl)
four_done false false false true e = absurd (clash e refl)
four_done false false false false e = (refl, refl)

module _ (room : ℕ) (s : State) (n : ℕ) where
  pub list-refused : is_done (first_of (entry_refusals s)) ≡ false → first_of (list_refusals room s n) ≡ first_of (entry_refusals s)
  unfolding list_refusals entry_refusals image_refusals
  list-refused d = three-refused _ _ _ _ d

  pub list-short : is_done (first_of (entry_refusals s)) ≡ true → ltb room n ≡ true → first_of (list_refusals room s n) ≡ ShortBuffer
  unfolding list_refusals entry_refusals image_refusals
  list-short d h = three_done _ _ _ _ d ∙ pick_true _ _ h

  pub list-good : is_done (first_of (entry_refusals s)) ≡ true → ltb room n ≡ false → first_of (list_refusals room s n) ≡ Done
  unfolding list_refusals entry_refusals image_refusals
  list-good d h = three_done _ _ _ _ d ∙ pick-false _ _ h

  -- a list that is not refused has its image's length, and room for its answers
  pub list-fits : is_done (first_of (list_refusals room s n)) ≡ true → (length s.image ≡ image_length) × (n ≤ room)
  unfolding list_refusals entry_refusals image_refusals wrong_length
  list-fits d = let f = four_done _ _ _ _ d in (eqb-true _ _ (not-false _ f.0), ltb-false _ _ f.1)
