-- A refusal changes nothing, and a call that is done leaves the rest of its buffer alone (01 "When the desk says no"). Assumes nothing.
use mathlib.Core.Path.{◌≡◌, refl, ap, ◌∙◌}
use mathlib.Core.Bool.{true}
use mathlib.Core.List.{List, [], ◌∷◌}
use Prim.Native.Nat.{ℕ, suc, ◌≤◌}
use native.Mathlib.Omega.{arith}
use lib.ListN.{length, take, drop, length-append, length-drop, length-map}
use lib.Seq.{take_at, drop_at}
use borrow.Author.Tests.{ltb-false}
use Rattle.bits.specs.Choice.{pick}
use Rattle.bits.proofs.Tests.{split, clash}
use Rattle.bits.proofs.Loops.{length-tab}
use Rattle.model.specs.Answers.{is_done}
use Rattle.model.specs.State.{State}
use Rattle.model.specs.Work.{early}
use Rattle.model.specs.Pages.{index_of}
use Rattle.model.specs.Access.{taken_bytes}
use Rattle.model.specs.Refusals.{first_of, start_refusals, entry_refusals, event_refusals, list_refusals}
use Rattle.model.specs.Step.{step, run, read_effect, event_effect, done_step, refused_step, answered_step}
use Rattle.model.specs.Outcome.{start_outcome_by, start_outcome, step_outcome, call_outcome_by, call_outcome, list_outcome_by, list_outcome, list_room, numbers_of, unchanged_outcome, laid_over}
use Rattle.model.specs.declared.answer.Answer.{Answer}
use Rattle.model.specs.declared.answer.Answer.TheVariants.{Done, WrongLength, FlatMemory, Unsound, BadAccess, ShortBuffer, NothingOnLane, Busy, NoSuchTarget, Malformed, BackToFront}
use Rattle.model.specs.declared.event.Call.TheVariants.{Read}
use Rattle.model.specs.declared.event.Event.{Event}
use Rattle.laws.specs.Asked.{Asked, start, call, list, outcome_of, given_state, given_buffer, holds, buffer_turn, short_buffer, short_read}
use Rattle.laws.specs.Left.{Unchanged, Fronted}
use Rattle.laws.proofs.Answered.{done_exactly}

pub done_is : (a : Answer) → is_done a ≡ true → a ≡ Done
unfolding is_done
done_is Done e = refl
done_is WrongLength e = absurd (clash e refl)
done_is FlatMemory e = absurd (clash e refl)
done_is Unsound e = absurd (clash e refl)
done_is BadAccess e = absurd (clash e refl)
done_is ShortBuffer e = absurd (clash e refl)
done_is NothingOnLane e = absurd (clash e refl)
done_is Busy e = absurd (clash e refl)
done_is NoSuchTarget e = absurd (clash e refl)
done_is Malformed e = absurd (clash e refl)
done_is BackToFront e = absurd (clash e refl)

-- ---- a refusal

-- a call is refused as a whole, or taken as a whole
start_cases : (x : List ℕ) → ((start_outcome x).answer ≡ Done → ⊥) → Unchanged (start x) (start_outcome x)
unfolding start_outcome start_outcome_by given_state given_buffer pick
start_cases x n = split (is_done (first_of (start_refusals x)))
    (λ d. absurd (n (done_is _ d)))
    (λ d. record { image = rw (d, pick); working = rw (d, pick); buffer = refl; mask = refl })

call_cases : (s : State) (buffer : List ℕ) (e : Event) → ((call_outcome s buffer e).answer ≡ Done → ⊥) → Unchanged (call s buffer e) (call_outcome s buffer e)
unfolding call_outcome call_outcome_by step_outcome unchanged_outcome step answered_step done_step refused_step laid_over given_state given_buffer pick
call_cases s buffer e n = split (is_done (first_of (entry_refusals s)))
    (λ d. split (is_done (first_of (event_refusals (length buffer) s e.call)))
    (λ f. absurd (n (rw (d, f, pick) (done_is _ f))))
    (λ f. record { image = rw (d, f, pick); working = rw (d, f, pick); buffer = rw (d, f, pick); mask = rw (d, f, pick) }))
    (λ d. record { image = rw (d, pick); working = rw (d, pick); buffer = rw (d, pick); mask = rw (d, pick) })

list_cases : (s : State) (answers : List ℕ) (es : List Event) → ((list_outcome s answers es).answer ≡ Done → ⊥)
    → Unchanged (list s answers es) (list_outcome s answers es)
unfolding list_outcome list_outcome_by unchanged_outcome given_state given_buffer pick
list_cases s answers es n = split (is_done (first_of (list_refusals (length answers) s (length es))))
    (λ d. absurd (n (rw (d, pick) (done_is _ d))))
    (λ d. record { image = rw (d, pick); working = rw (d, pick); buffer = rw (d, pick); mask = rw (d, pick) })

-- any answer but 0 leaves everything as it was
pub refusal_changes_nothing : (q : Asked) → ((outcome_of q).answer ≡ Done → ⊥) → Unchanged q (outcome_of q)
unfolding outcome_of
refusal_changes_nothing (start x) = start_cases x
refusal_changes_nothing (call s buffer e) = call_cases s buffer e
refusal_changes_nothing (list s answers es) = list_cases s answers es

-- ---- a call that is done

-- bytes laid over a buffer are its front, and the rest of it is as it was
pub laid_front : (n : ℕ) (bytes buffer : List ℕ) → length bytes ≡ n → take n (laid_over bytes buffer) ≡ bytes
unfolding laid_over
laid_front n bytes buffer e = take_at bytes _ n e

pub laid_rest : (n : ℕ) (bytes buffer : List ℕ) → length bytes ≡ n → drop n (laid_over bytes buffer) ≡ drop n buffer
unfolding laid_over
laid_rest n bytes buffer e = drop_at bytes _ n e ∙ ap (λ k. drop k buffer) e

front : (n : ℕ) (bytes buffer : List ℕ) → length bytes ≡ n → n ≤ length buffer → Fronted n bytes buffer (laid_over bytes buffer)
unfolding laid_over
front n bytes buffer e b =
    record {
      size = simp (length-append, length-drop) (omega arith);
      front = laid_front n bytes buffer e;
      rest = laid_rest n bytes buffer e;
    }

-- a call that is done is a step that is done
call_done : (s : State) (buffer : List ℕ) (e : Event) → (call_outcome s buffer e).answer ≡ Done
    → call_outcome s buffer e ≡ step_outcome (done_step Done (event_effect early s e.bytes e.call)) buffer
unfolding call_outcome call_outcome_by step_outcome unchanged_outcome step answered_step done_step refused_step is_done pick
call_done s buffer e d = split (is_done (first_of (entry_refusals s)))
    (λ i. split (is_done (first_of (event_refusals (length buffer) s e.call)))
    (λ j. rw (i, j, pick, done_is (first_of (event_refusals (length buffer) s e.call)) j))
    (λ j. absurd (clash (ap is_done (rw (i, j, pick) at d)) j)))
    (λ i. absurd (clash (ap is_done (rw (i, pick) at d)) i))

read_fits : (s : State) (buffer bytes : List ℕ) (address count : ℕ)
    → (call_outcome s buffer (record { call = Read address count; bytes = bytes })).answer ≡ Done → count ≤ length buffer
unfolding outcome_of holds short_buffer short_read
read_fits s buffer bytes address count d =
    ltb-false (length buffer) count ((done_exactly (call s buffer (record { call = Read address count; bytes = bytes }))).0 d buffer_turn (omega arith))

-- a read that is done lays the bytes read over the front of its buffer, and leaves the bytes beyond its count alone
pub read_fronts : (s : State) (buffer bytes : List ℕ) (address count : ℕ)
    → (call_outcome s buffer (record { call = Read address count; bytes = bytes })).answer ≡ Done
    → Fronted count (taken_bytes s.image (index_of s.image address) count) buffer
    (call_outcome s buffer (record { call = Read address count; bytes = bytes })).buffer
unfolding step_outcome done_step event_effect read_effect taken_bytes
read_fronts s buffer bytes address count d =
    rw (call_done s buffer (record { call = Read address count; bytes = bytes }) d)
    (front count (taken_bytes s.image (index_of s.image address) count) buffer (length-tab count _) (read_fits s buffer bytes address count d))

run_length : (room : ℕ) (s : State) (es : List Event) → length (run early room s es) ≡ length es
unfolding run
run_length room s [] = refl
run_length room s (e ∷ es) = ap suc (run_length room (step early room s e).state es)

list-fits : (s : State) (answers : List ℕ) (es : List Event) → (list_outcome s answers es).answer ≡ Done → length es ≤ length answers
unfolding outcome_of holds short_buffer
list-fits s answers es d = ltb-false (length answers) (length es) ((done_exactly (list s answers es)).0 d buffer_turn (omega arith))

-- a list that is done lays one number for each event over the front of the answer buffer, and leaves the rest of it alone
pub list_fronts : (s : State) (answers : List ℕ) (es : List Event) → (list_outcome s answers es).answer ≡ Done
    → Fronted (length es) (numbers_of (run early list_room s es)) answers (list_outcome s answers es).buffer
unfolding list_outcome list_outcome_by unchanged_outcome numbers_of is_done pick
list_fronts s answers es d = split (is_done (first_of (list_refusals (length answers) s (length es))))
    (λ i. rw (i, pick) (front (length es) (numbers_of (run early list_room s es)) answers
    (simp length-map (run_length list_room s es)) (list-fits s answers es d)))
    (λ i. absurd (clash (ap is_done (rw (i, pick) at d)) i))
