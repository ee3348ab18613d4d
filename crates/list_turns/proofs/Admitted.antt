-- The admission of a list from the answer that the code asked for. Assumes nothing.
use mathlib.Core.Path.{◌≡◌, refl, ap, ◌∙◌}
use mathlib.Core.Bool.{true, false}
use mathlib.Core.List.{List}
use Prim.Native.Nat.{ℕ}
use lib.Dec.{ltb}
use lib.ListN.{length}
use Rattle.bits.specs.Choice.{pick}
use Rattle.bits.proofs.Tests.{split, pick_true, pick-false}
use Rattle.model.specs.Map.{Image}
use Rattle.model.specs.Answers.{is_done}
use Rattle.model.specs.Refusals.{first_of, entry_refusals}
use Rattle.model.specs.State.{state_with}
use Rattle.model.specs.declared.answer.Answer.{Answer}
use Rattle.model.specs.declared.answer.Answer.TheVariants.{Done, ShortBuffer}
use Rattle.model.specs.declared.lane.Working.{Working}
use Rattle.laws_list.proofs.Admission.{list-refused, list-short, list-good}
use Rattle.list_runs.specs.declared.Run.{Run}
use Rattle.list_runs.specs.Runs.{start_run, refused_run, admitted_run}
use Rattle.list_turns.specs.Turns.{begin_by, begin_of}

module _ (n : ℕ) (x : Image) (answers : List ℕ) (w : Working) (r : Run) where
  abbrev entry : Answer
  entry = first_of (entry_refusals (state_with x w))

  begin_refused : is_done entry ≡ false → r ≡ refused_run entry w → record { image = x; answers = answers; r = r } ≡ begin_of n x answers w
  unfolding begin_of begin_by
  begin_refused d h = rw (h, list-refused (length answers) (state_with x w) n d, pick-false n 0 d)

  begin_short : is_done entry ≡ true → ltb (length answers) n ≡ true → r ≡ refused_run ShortBuffer w
      → record { image = x; answers = answers; r = r } ≡ begin_of n x answers w
  unfolding begin_of begin_by is_done pick
  begin_short d l h = rw (h, list-short (length answers) (state_with x w) n d l)

  begin_good : is_done entry ≡ true → ltb (length answers) n ≡ false → r ≡ start_run Done n w
      → record { image = x; answers = answers; r = r } ≡ begin_of n x answers w
  unfolding begin_of begin_by is_done pick
  begin_good d l h = rw (h, list-good (length answers) (state_with x w) n d l)

  pub begins : (a : Answer) → a ≡ entry → r ≡ admitted_run a (length answers) n w → record { image = x; answers = answers; r = r } ≡ begin_of n x answers w
  unfolding admitted_run
  begins a e h =
      let g : r ≡ admitted_run entry (length answers) n w = h ∙ ap (λ (b : Answer). admitted_run b (length answers) n w) e in
      split (is_done entry)
      (λ d. split (ltb (length answers) n)
      (λ l. begin_short d l (g ∙ pick_true _ _ d ∙ pick_true _ _ l))
      (λ l. begin_good d l (g ∙ pick_true _ _ d ∙ pick-false _ _ l)))
      (λ d. begin_refused d (g ∙ pick-false _ _ d))
