-- Laws of runs: one event more, and as many steps as events. Assumes nothing.
use mathlib.Core.Path.{◌≡◌, refl, ap}
use mathlib.Core.List.{List, [], ◌∷◌, ◌++◌}
use Prim.Native.Nat.{ℕ, suc}
use lib.ListN.{length}
use Rattle.model.specs.State.{State}
use Rattle.model.specs.Work.{Mode}
use Rattle.model.specs.Step.{step, run, ending}
use Rattle.model.specs.declared.event.Event.{Event}

module _ (mode : Mode) (room : ℕ) where
  pub ending_snoc : (s : State) (es : List Event) (e : Event) → ending mode room s (es ++ (e ∷ [])) ≡ (step mode room (ending mode room s es) e).state
  unfolding ending
  ending_snoc s [] e = refl
  ending_snoc s (d ∷ es) e = ending_snoc (step mode room s d).state es e

  pub run_snoc : (s : State) (es : List Event) (e : Event)
      → run mode room s (es ++ (e ∷ [])) ≡ run mode room s es ++ (step mode room (ending mode room s es) e ∷ [])
  unfolding run ending
  run_snoc s [] e = refl
  run_snoc s (d ∷ es) e = ap (λ os. step mode room s d ∷ os) (run_snoc (step mode room s d).state es e)

  pub length_run : (s : State) (es : List Event) → length (run mode room s es) ≡ length es
  unfolding run
  length_run s [] = refl
  length_run s (d ∷ es) = ap suc (length_run (step mode room s d).state es)
