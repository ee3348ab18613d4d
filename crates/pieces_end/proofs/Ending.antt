-- Laws of the end, case by case. Assumes nothing.
use mathlib.Core.Path.{◌≡◌, ap}
use mathlib.Core.Bool.{true, false}
use Prim.Native.Nat.{ℕ}
use lib.Dec.{leb, eqb}
use lib.ListN.{length}
use Rattle.bits.specs.Choice.{both}
use Rattle.bits.proofs.Tests.{pick_true, pick-false}
use Rattle.model.specs.Stream.{Carried, silent, entering, refused, ended_in, ended}
use Rattle.model.specs.declared.answer.Answer.TheVariants.{Malformed}
use Rattle.model.specs.declared.stream.Phase.{Phase}
use Rattle.model.specs.declared.stream.Phase.TheVariants.{InRecords, Over}

-- by the phase
pub ended_at : (m : Carried) (p : Phase) → m.phase ≡ p → ended m ≡ ended_in p m
unfolding ended
ended_at m p e = ap (λ q. ended_in q m) e

module _ (m : Carried) (next records : ℕ) where
  pub end_whole : both (leb records next) (eqb (length m.held) 0) ≡ true → ended_in (InRecords next records) m ≡ silent (entering Over m.state m)
  unfolding ended_in
  end_whole e = pick_true _ _ e

  pub end_early : both (leb records next) (eqb (length m.held) 0) ≡ false → ended_in (InRecords next records) m ≡ refused Malformed m
  unfolding ended_in
  end_early e = pick-false _ _ e
