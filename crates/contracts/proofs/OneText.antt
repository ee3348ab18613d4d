-- The contract of a call that prints admits one text, and there is one for every input (01 "How tightly each answer is held"). Assumes nothing.
use mathlib.Core.Path.{refl, sym, ◌∙◌}
use mathlib.Core.List.{List}
use Prim.Native.Nat.{ℕ}
use Rattle.std.proofs.Common.{Option}
use Rattle.contracts.specs.Texts.{answer_for, left_in, GivesAs, SameText}

module _ {A : Type 0} (shown : Option ℕ → A) (room : ℕ) (text before : List ℕ) where
  -- whatever meets the contract is the same in answer and in every buffer byte
  pub one-text : (r r' : A) (buffer buffer' : List ℕ)
      → GivesAs shown room text before buffer r → GivesAs shown room text before buffer' r' → SameText r buffer r' buffer'
  one-text r r' buffer buffer' a b = record { answer = a.answer ∙ sym b.answer; buffer = a.buffer ∙ sym b.buffer }

  -- and something meets it: the answer and the buffer themselves
  pub a_text : GivesAs shown room text before (left_in room text before) (shown (answer_for room text before))
  a_text = record { answer = refl; buffer = refl }
