-- Laws of the buffer of a replay: the text over the front of what was lent. Assumes nothing.
use mathlib.Core.Path.{◌≡◌, sym, ap, ◌∙◌}
use mathlib.Core.List.{List}
use Prim.Native.Nat.{ℕ, ◌≤◌, ◌<◌}
use native.Mathlib.Nat.{zero-add}
use lib.ListN.{length}
use borrow.Author.Tests.{lt-ltb, le-ltb}
use Rattle.bits.proofs.Tests.{pick_true, pick-false}
use Rattle.model.specs.Outcome.{laid_over}
use Rattle.night_text.specs.Buffer.{laid_at, Puts}
use Rattle.contracts.specs.Texts.{answer_for, left_in, Gives}
use Rattle.std.proofs.Common.{None, Some}

-- text from the front on lies over the front
laid_front : (text buffer : List ℕ) → laid_at 0 text buffer ≡ laid_over text buffer
unfolding laid_at laid_over
laid_front text buffer = rw (zero-add (length text))

pub gives_none : {room : ℕ} {text before : List ℕ} → length before < room → Gives room text before before None
unfolding answer_for left_in
gives_none h = record { answer = sym (pick_true _ _ (lt-ltb _ _ h)); buffer = sym (pick_true _ _ (lt-ltb _ _ h)) }

pub gives_text : {room n : ℕ} {text before after : List ℕ} → room ≤ length before → Puts 0 text before after n → Gives room text before after (Some n)
unfolding answer_for left_in
gives_text {room} {n} {text} {before} h p =
    record {
      answer = ap Some (p.next ∙ zero-add (length text)) ∙ sym (pick-false _ _ (le-ltb _ _ h));
      buffer = p.buffer ∙ laid_front text before ∙ sym (pick-false _ _ (le-ltb _ _ h));
    }
