-- Firmware's calls give what the calls of the registers give: the promises of specs/Through.antt, kept. Assumes nothing.
use mathlib.Core.Path.{◌≡◌, refl, sym, ap, ap₂, ◌∙◌}
use mathlib.Core.Bool.{true}
use mathlib.Core.List.{List, [], ◌∷◌, map}
use Prim.Native.Nat.{ℕ, zero, suc, ◌%◌, ◌≤◌}
use native.Mathlib.Nat.{le_of_suc-le-suc, not-suc-le-zero}
use native.Mathlib.Omega.{arith}
use lib.ListN.{length}
use borrow.Author.Tests.{eq-eqb}
use Rattle.bits.specs.Choice.{pick}
use Rattle.bits.specs.Loop.{tab}
use Rattle.bits.specs.Sets.{lane_count}
use Rattle.bits.proofs.Tests.{split, pick_true, pick-false, pick-has}
use Rattle.bits.proofs.Loops.{length-tab}
use Rattle.model.specs.Map.{Image}
use Rattle.model.specs.Answers.{number, is_done}
use Rattle.model.specs.State.{State, state_with}
use Rattle.model.specs.Refusals.{first_of}
use Rattle.model.specs.Start.{started_state}
use Rattle.model.specs.Outcome.{Outcome, laid_over, start_outcome_by, start_outcome, call_outcome}
use Rattle.model.specs.declared.answer.Answer.{Answer}
use Rattle.model.specs.declared.answer.Answer.TheVariants.{Done}
use Rattle.model.specs.declared.event.Event.{Event}
use Rattle.laws.specs.Asked.{Asked, call, outcome_of, given_state, given_buffer}
use Rattle.laws.specs.Calls.{Called, outcomes}
use Rattle.laws.proofs.Unchanged.{refusal_changes_nothing}
use Rattle.packing.specs.Packing.{state_length, packed_byte, packed, unpacked, is_packing}
use Rattle.packing.proofs.States.{unpacked-packed, is_packing_lem, packed-unpacked}
use Rattle.door_answers.specs.Door.{Left, returned_for, left_by, left_refused, door_start_refusals, door_start_by, door_start, strange_refusals, door_outcome}
use Rattle.door_answers.proofs.Refused.{door_room}
use Rattle.laws_door.specs.Through.{door_run, Started, SameThrough, Refused, NothingChanged}
use Rattle.laws_door.proofs.Eight.{Eight, call_eight}

-- what is laid twice over the same front is as if it were laid once
laid_twice : (n : ℕ) (f g : ℕ → ℕ) (buffer : List ℕ) → n ≤ length buffer → laid_over (tab n g) (laid_over (tab n f) buffer) ≡ laid_over (tab n g) buffer
unfolding laid_over tab
laid_twice zero f g buffer l = refl
laid_twice (suc n) f g [] l = absurd (not-suc-le-zero l)
laid_twice (suc n) f g (b ∷ bs) l = ap (λ t. g 0 ∷ t) (laid_twice n (λ k. f (suc k)) (λ k. g (suc k)) bs (le_of_suc-le-suc l))

module _ (state : List ℕ) (room : state_length ≤ length state) where
  abbrev over : State → List ℕ
  over s = laid_over (packed s.working) state

  left_again : (s : State) (o : Outcome) → left_by (over s) o ≡ left_by state o
  unfolding left_by packed
  left_again s o =
      let again = laid_twice state_length (packed_byte s.working) (packed_byte o.state.working) state room in
      λ i. record { returned = returned_for o.answer o.mask; image = o.state.image; state = again i; buffer = o.buffer }

  -- one call, on a state that is packed
  one-call : (s : State) (buffer : List ℕ) (e : Event) → Eight s.working → door_outcome s.image (over s) buffer e ≡ left_by state (call_outcome s buffer e)
  unfolding door_outcome
  one-call s buffer e h =
      pick_true _ _ (is_packing_lem s.working state room)
      ∙ ap (λ w. left_by (over s) (call_outcome (state_with s.image w) buffer e)) (unpacked-packed s.working state room h)
      ∙ left_again s (call_outcome s buffer e)

  -- .. and any number of them
  all_calls : (s : State) (cs : List Called) → Eight s.working → door_run s.image (over s) cs ≡ map (left_by state) (outcomes s cs)
  unfolding door_run outcomes left_by
  all_calls s [] h = refl
  all_calls s (c ∷ cs) h =
      let o = one-call s c.buffer c.event h in
      ap₂ ◌∷◌ o
      (ap (λ (d : Left). door_run d.image d.state cs) o ∙ all_calls (call_outcome s c.buffer c.event).state cs (call_eight s c.buffer c.event h))

-- ---- start

-- an answer that is handed back as 0 is done
no_number : (a : Answer) → returned_for a 0 ≡ 0 → is_done a ≡ true
unfolding returned_for is_done
no_number a h = eq-eqb (number a) 0 (omega (arith, h))

module _ (x : Image) (state : List ℕ) (started : Started x state) where
  abbrev answer : Answer
  answer = first_of (door_start_refusals x (length state))

  done : is_done answer ≡ true
  unfolding door_start door_start_by left_refused
  done = split (is_done answer)
      (λ d. d)
      (λ d. no_number answer (ap (λ (o : Left). o.returned) (sym (pick-false (left_by state (start_outcome x)) (left_refused answer x state []) d)) ∙ started))

  starts : door_start x state ≡ left_by state (start_outcome x)
  unfolding door_start door_start_by
  starts = pick_true _ _ done

  start_eight : Eight (start_outcome x).state.working
  unfolding start_outcome start_outcome_by started_state
  start_eight = pick-has (λ (t : State). Eight t.working) _ (λ b. length-tab lane_count _) (λ b. length-tab lane_count _)

  -- THE THEOREM
  pub same-through : (cs : List Called) → SameThrough x state cs
  unfolding left_by
  same-through cs =
      record {
        start = starts;
        calls =
            ap (λ (o : Left). door_run o.image o.state cs) starts
            ∙ all_calls state (door_room x (length state) done) (start_outcome x).state cs start_eight;
      }

-- ---- a refused call

-- an answer that is done is handed back with 0 in its lowest byte
done_low : (a : Answer) (mask : ℕ) → a ≡ Done → returned_for a mask % 256 ≡ 0
unfolding returned_for
done_low a mask e = rw e (omega arith)

module _ (x : Image) (state buffer : List ℕ) (e : Event) where
  abbrev asked : Asked
  asked = call (state_with x (unpacked state)) buffer e

  -- where the bytes are a working state's: the outcome changes nothing, and that state has the bytes that it was read from
  packed_nothing : is_packing state ≡ true → Refused (left_by state (outcome_of asked)) → NothingChanged x state buffer (left_by state (outcome_of asked))
  unfolding left_by given_state given_buffer
  packed_nothing good n =
      let u = refusal_changes_nothing asked (λ d. n (done_low _ _ d)) in
      record {
        image = u.image;
        state = ap (λ w. laid_over (packed w) state) u.working ∙ packed-unpacked state good;
        buffer = u.buffer;
        no_lanes = ((outcome_of asked).answer, ap (returned_for (outcome_of asked).answer) u.mask);
      }

  -- THE THEOREM
  pub refused_nothing : Refused (door_outcome x state buffer e) → NothingChanged x state buffer (door_outcome x state buffer e)
  unfolding door_outcome left_refused outcome_of pick
  refused_nothing n = split (is_packing state)
      (λ good. rw (good, pick) (packed_nothing good (rw (good, pick) at n)))
      (λ bad. rw (bad, pick) (record { image = refl; state = refl; buffer = refl; no_lanes = (first_of (strange_refusals x), refl) }))
