-- The event in the place of a write gives what the write of all lent bytes gives. Assumes nothing.
use mathlib.Core.Path.{◌≡◌, sym, ap, ◌∙◌}
use mathlib.Core.Bool.{true, false}
use mathlib.Core.List.{List}
use Prim.Native.Nat.{ℕ, ◌+◌, ◌≤◌, ◌<◌}
use native.Mathlib.Omega.{arith}
use lib.Dec.{ltb}
use lib.ListN.{length, take}
use lib.Seq.{take-length}
use borrow.Author.Tests.{ltb-true, ltb-false, lt-ltb}
use Rattle.bits.specs.Choice.{pick}
use Rattle.bits.proofs.Tests.{split, pick_true, pick-false, either_i_l, either_i_r}
use Rattle.model.specs.Answers.{is_done}
use Rattle.model.specs.Access.{write_limit, is_bad_access}
use Rattle.model.specs.State.{State}
use Rattle.model.specs.Refusals.{event_refusals}
use Rattle.model.specs.Work.{early}
use Rattle.model.specs.Step.{event, event_effect, refused_step, answered_step, step}
use Rattle.model.specs.Outcome.{call_outcome_by, call_outcome}
use Rattle.model.specs.declared.answer.Answer.TheVariants.{BadAccess}
use Rattle.model.specs.declared.event.Call.TheVariants.{Write}
use Rattle.model.proofs.Refused.{first_here}
use Rattle.door_events.specs.Writes.{write_of, held_count, held_bytes, held_write}
use Rattle.door_events.proofs.Held.{front}

count_over : (n : ℕ) → ltb write_limit n ≡ true → held_count n ≡ write_limit + 1
unfolding held_count
count_over n t = pick_true _ _ t

count-within : (n : ℕ) → ltb write_limit n ≡ false → held_count n ≡ n
unfolding held_count
count-within n t = pick-false _ _ t

held-front : (bytes : List ℕ) → length bytes ≤ write_limit → take (length bytes) (held_bytes bytes) ≡ bytes
unfolding held_bytes
held-front bytes h = front bytes write_limit h

module _ (s : State) (room address : ℕ) where
  -- more bytes than a write carries are refused, however many
  too_many_lem : (n : ℕ) (bytes : List ℕ) → write_limit < n → step early room s (event (Write address n) bytes) ≡ refused_step BadAccess s
  unfolding step answered_step event_refusals is_bad_access is_done pick
  too_many_lem n bytes h =
      rw (first_here BadAccess _ _ (either_i_r _ _ (either_i_l _ _ (lt-ltb write_limit n h))))

  -- a write looks at no byte past its count
  within : (n : ℕ) (bytes held : List ℕ) → take n held ≡ take n bytes
      → step early room s (event (Write address n) held) ≡ step early room s (event (Write address n) bytes)
  unfolding step event_effect
  within n bytes held h = rw h

  same_step : (bytes : List ℕ) → step early room s (held_write address bytes) ≡ step early room s (write_of address bytes)
  same_step bytes = split (ltb write_limit (length bytes))
      (λ t. too_many_lem (held_count (length bytes)) (held_bytes bytes) (rw (count_over (length bytes) t) (omega arith)) ∙ sym (too_many_lem (length bytes) bytes (ltb-true _ _ t)))
      (λ t. ap (λ n. step early room s (event (Write address n) (held_bytes bytes))) (count-within (length bytes) t)
      ∙ within (length bytes) bytes (held_bytes bytes) (held-front bytes (ltb-false _ _ t) ∙ sym (take-length bytes)))

-- so every call with it leaves the same
pub same_write : (s : State) (address : ℕ) (bytes buffer : List ℕ) → call_outcome s buffer (held_write address bytes) ≡ call_outcome s buffer (write_of address bytes)
unfolding call_outcome call_outcome_by
same_write s address bytes buffer = rw (same_step s (length buffer) address bytes)
