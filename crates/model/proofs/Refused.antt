-- Laws of a list of refusals: the first whose condition holds is the answer. Assumes nothing.
use mathlib.Core.Path.{◌≡◌, refl}
use mathlib.Core.Bool.{Bool, true, false}
use mathlib.Core.List.{List, [], ◌∷◌}
use Rattle.bits.proofs.Tests.{pick_true, pick-false}
use Rattle.model.specs.Refusals.{Refusal, refuse, first_of}
use Rattle.model.specs.declared.answer.Answer.{Answer}
use Rattle.model.specs.declared.answer.Answer.TheVariants.{Done}

pub first_here : (a : Answer) (c : Bool) (rs : List Refusal) → c ≡ true → first_of (refuse a c ∷ rs) ≡ a
unfolding first_of
first_here a c rs e = pick_true _ _ e

pub first_next : (a : Answer) (c : Bool) (rs : List Refusal) → c ≡ false → first_of (refuse a c ∷ rs) ≡ first_of rs
unfolding first_of
first_next a c rs e = pick-false _ _ e

pub first_none : first_of [] ≡ Done
unfolding first_of
first_none = refl
