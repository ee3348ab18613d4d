-- The refusals of start and of a strange state, from the code's tests. Assumes nothing.
use mathlib.Core.Path.{◌≡◌, refl, sym, ◌∙◌}
use mathlib.Core.Bool.{Bool, true, false, not}
use mathlib.Core.List.{[], ◌∷◌}
use Prim.Native.Nat.{ℕ, ◌≤◌, ◌<◌}
use lib.Dec.{ltb}
use lib.ListN.{length}
use borrow.Author.Tests.{lt-ltb, le-ltb, ltb-false}
use Rattle.bits.specs.Choice.{pick}
use Rattle.bits.proofs.Tests.{clash, pick_true, pick-false}
use Rattle.model.specs.Answers.{is_done}
use Rattle.model.specs.Map.{Image, image_length}
use Rattle.model.specs.Refusals.{refuse, first_of, is_flat, image_refusals, start_refusals}
use Rattle.model.specs.declared.answer.Answer.{Answer}
use Rattle.model.specs.declared.answer.Answer.TheVariants.{Done, WrongLength, FlatMemory, BackToFront, Unsound, ShortBuffer}
use denote.Enum.Bare.{sameb}
use Rattle.model.specs.contracts.answer.Answer.{the_type}
use Rattle.model.proofs.States.{not_done, is_done_lem}
use Rattle.model.proofs.Refused.{first_here, first_next}
use Rattle.start_image.proofs.Refusing.{has-length, other_length_lem}
use Rattle.packing.specs.Packing.{state_length}
use Rattle.door_answers.specs.Door.{door_start_refusals, strange_refusals}

-- ---- start: 1, 2, 10, then 5

three-refused : (a b c d : Bool) → is_done (first_of (refuse WrongLength a ∷ refuse FlatMemory b ∷ refuse BackToFront c ∷ [])) ≡ false
    → first_of (refuse WrongLength a ∷ refuse FlatMemory b ∷ refuse BackToFront c ∷ refuse ShortBuffer d ∷ [])
    ≡ first_of (refuse WrongLength a ∷ refuse FlatMemory b ∷ refuse BackToFront c ∷ [])
unfolding first_of pick is_done
three-refused true b c d e = refl
three-refused false true c d e = refl
three-refused false false true d e = refl
three-refused false false false d e = absurd (clash refl e)

three_done : (a b c d : Bool) → is_done (first_of (refuse WrongLength a ∷ refuse FlatMemory b ∷ refuse BackToFront c ∷ [])) ≡ true
    → first_of (refuse WrongLength a ∷ refuse FlatMemory b ∷ refuse BackToFront c ∷ refuse ShortBuffer d ∷ []) ≡ pick d ShortBuffer Done
unfolding first_of pick is_done
three_done true b c d e = absurd (clash e refl)
three_done false true c d e = absurd (clash e refl)
three_done false false true d e = absurd (clash e refl)
three_done false false false d e = refl

module _ (x : Image) (room : ℕ) (a : Answer) (t : Bool) (answer : a ≡ first_of (start_refusals x)) (told : t ≡ not (sameb the_type a Done)) where
  refused : is_done (first_of (start_refusals x)) ≡ false → first_of (door_start_refusals x room) ≡ first_of (start_refusals x)
  unfolding door_start_refusals start_refusals image_refusals
  refused d = three-refused _ _ _ _ d

  passed : is_done (first_of (start_refusals x)) ≡ true → first_of (door_start_refusals x room) ≡ pick (ltb room state_length) ShortBuffer Done
  unfolding door_start_refusals start_refusals image_refusals
  passed d = three_done _ _ _ _ d

  pub door_refused : t ≡ true → a ≡ first_of (door_start_refusals x room)
  door_refused h = answer ∙ sym (refused (not_done _ _ _ answer told h))

  pub door_short : t ≡ false → room < state_length → ShortBuffer ≡ first_of (door_start_refusals x room)
  door_short h l = sym (passed (is_done_lem _ _ _ answer told h) ∙ pick_true _ _ (lt-ltb room state_length l))

  pub door_done : t ≡ false → state_length ≤ room → Done ≡ first_of (door_start_refusals x room)
  door_done h l = sym (passed (is_done_lem _ _ _ answer told h) ∙ pick-false _ _ (le-ltb room state_length l))

-- what start takes has room for a working state
four_done : (a b c d : Bool) → is_done (first_of (refuse WrongLength a ∷ refuse FlatMemory b ∷ refuse BackToFront c ∷ refuse ShortBuffer d ∷ [])) ≡ true → d ≡ false
unfolding first_of pick is_done
four_done true b c d e = absurd (clash e refl)
four_done false true c d e = absurd (clash e refl)
four_done false false true d e = absurd (clash e refl)
four_done false false false true e = absurd (clash e refl)
four_done false false false false e = refl

pub door_room : (x : Image) (room : ℕ) → is_done (first_of (door_start_refusals x room)) ≡ true → state_length ≤ room
unfolding door_start_refusals start_refusals image_refusals
door_room x room d = ltb-false _ _ (four_done _ _ _ _ d)

-- ---- a strange state: 1, 2, then 3

module _ (x : Image) where
  pub strange_length : (length x ≡ image_length → ⊥) → WrongLength ≡ first_of (strange_refusals x)
  unfolding strange_refusals image_refusals
  strange_length n = sym (first_here _ _ _ (other_length_lem x n))

  pub strange_flat : length x ≡ image_length → is_flat x ≡ true → FlatMemory ≡ first_of (strange_refusals x)
  unfolding strange_refusals image_refusals
  strange_flat e f = sym (first_next _ _ _ (has-length x e) ∙ first_here _ _ _ f)

  pub strange_state : length x ≡ image_length → is_flat x ≡ false → Unsound ≡ first_of (strange_refusals x)
  unfolding strange_refusals image_refusals
  strange_state e f = sym (first_next _ _ _ (has-length x e) ∙ first_next _ _ _ f ∙ first_here _ _ _ refl)
