-- The contract of a public call admits one outcome, and there is one for every input (01 "How tightly each answer is held"). Assumes nothing.
use mathlib.Core.Path.{refl, sym, ◌∙◌}
use mathlib.Core.List.{List}
use Prim.Native.Nat.{ℕ}
use Rattle.contracts.specs.Forms.{IsOutcome}
use Rattle.contracts.specs.declared.Returned.{Returned}
use Rattle.laws.specs.Asked.{Asked, outcome_of}
use Rattle.laws.specs.Left.{Same, left_by}

module _ (q : Asked) where
  -- whatever meets the contract is the same in answer, image, lane records, buffer and mask
  pub one_outcome : (r r' : Returned) (image buffer image' buffer' : List ℕ)
      → IsOutcome (outcome_of q) r image buffer → IsOutcome (outcome_of q) r' image' buffer' → Same r image buffer r' image' buffer'
  one_outcome r r' image buffer image' buffer' a b =
      record {
        answer = a.answer ∙ sym b.answer;
        image = a.image ∙ sym b.image;
        working = a.working ∙ sym b.working;
        buffer = a.buffer ∙ sym b.buffer;
        mask = a.mask ∙ sym b.mask;
      }

  -- and something meets it: the outcome itself
  pub an_outcome : IsOutcome (outcome_of q) (left_by (outcome_of q)) (outcome_of q).state.image (outcome_of q).buffer
  unfolding left_by
  an_outcome = record { answer = refl; image = refl; working = refl; buffer = refl; mask = refl }
