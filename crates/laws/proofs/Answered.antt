-- Every input is answered, and each number exactly when the refusal list says so (01 "When the desk says no"). Assumes nothing.
use mathlib.Core.Path.{◌≡◌, refl, sym, ap, ◌∙◌, subst}
use mathlib.Core.Bool.{Bool, true, false, not}
use mathlib.Core.List.{List, [], ◌∷◌, ◌++◌, map}
use mathlib.Core.Logic.{◌↔◌, ◌⊎◌, inl, inr}
use Prim.Native.Nat.{ℕ, zero, suc, ◌<◌, zero-le, suc-le-suc}
use native.Mathlib.Nat.{le_of_suc-le-suc, not-suc-le-zero}
use lib.Dec.{eqb}
use lib.ListN.{length, get_or}
use borrow.Author.Tests.{eqb-true, eq-eqb}
use Rattle.bits.specs.Choice.{pick, both, implies}
use Rattle.bits.specs.Loop.{all_below}
use Rattle.bits.proofs.Tests.{split, clash, implies_use}
use Rattle.bits.proofs.Loops.{all_at}
use Rattle.model.specs.Answers.{number, is_done}
use Rattle.model.specs.State.{State}
use Rattle.model.specs.Step.{step, answered_step, done_step, refused_step}
use Rattle.model.specs.Work.{early}
use Rattle.model.specs.Sound.{is_sound}
use Rattle.model.specs.Refusals.{Refusal, refuse, first_of, wrong_length, is_flat, image_refusals, start_refusals, entry_refusals, event_refusals, list_refusals}
use Rattle.model.specs.Outcome.{start_outcome_by, start_outcome, step_outcome, call_outcome_by, call_outcome, list_outcome_by, list_outcome, unchanged_outcome}
use Rattle.model.specs.declared.answer.Answer.{Answer}
use Rattle.model.specs.declared.answer.Answer.TheVariants.{Done}
use Rattle.model.specs.declared.event.Call.{Call}
use Rattle.model.specs.declared.event.Call.TheVariants.{Write, Read, Work, Hardware, Condition, Sample, Lasting, Module, Line}
use Rattle.model.specs.declared.event.Event.{Event}
use Rattle.laws.specs.Asked.{Asked, start, call, list, outcome_of, given_state, holds, order, FirstAt, NoneHolds, turned_limits, is_unsound, bad_access, bad_place, short_read, busy_call, idle_call, of_event, short_buffer}

-- the order by its numbers
pub order_numbers : map number order ≡ 1 ∷ 2 ∷ 10 ∷ 3 ∷ 4 ∷ 8 ∷ 5 ∷ 7 ∷ 6 ∷ []
order_numbers = refl

-- ---- the first of a list of answers whose condition holds
first : (Answer → Bool) → List Answer → Answer
first h answers = first_of (map (λ a. refuse a (h a)) answers)

module _ (h : Answer → Bool) where
  first_at : (answers : List Answer) (k : ℕ) → FirstAt h answers k → first h answers ≡ get_or answers k Done
  unfolding first first_of pick
  first_at [] k f = absurd (not-suc-le-zero f.in_list)
  first_at (a ∷ answers) zero f = rw (f.holds, pick)
  first_at (a ∷ answers) (suc k) f =
      rw (f.none_earlier 0 (suc-le-suc zero-le), pick)
      (first_at answers k (record {
        in_list = le_of_suc-le-suc f.in_list;
        holds = f.holds;
        none_earlier = λ j b. f.none_earlier (suc j) (suc-le-suc b);
      }))

  first_none : (answers : List Answer) → NoneHolds h answers → first h answers ≡ Done
  unfolding first first_of pick
  first_none [] n = refl
  first_none (a ∷ answers) n = rw (n 0 (suc-le-suc zero-le), pick) (first_none answers (λ j b. n (suc j) (suc-le-suc b)))

  -- one is the first to hold, or none holds
  find : (answers : List Answer) → ((k : ℕ) × FirstAt h answers k) ⊎ NoneHolds h answers
  find [] = inr (λ j b. absurd (not-suc-le-zero b))
  find (a ∷ answers) = split (h a)
      (λ e. inl (0, record { in_list = suc-le-suc zero-le; holds = e; none_earlier = λ j b. absurd (not-suc-le-zero b) }))
      (λ e. elim (find answers) [
        | inl f ↦ inl (
          suc f.0,
          record {
            in_list = suc-le-suc f.1.in_list;
            holds = f.1.holds;
            none_earlier = below e f.0 f.1.none_earlier;
          },
        )
        | inr n ↦ inr (below e (length answers) n)
      ])
    where
      below : h a ≡ false → (k : ℕ) → ((j : ℕ) → j < k → h (get_or answers j Done) ≡ false) → (j : ℕ) → j < suc k → h (get_or (a ∷ answers) j Done) ≡ false
      below e k f zero b = e
      below e k f (suc j) b = f j (le_of_suc-le-suc b)

-- ---- the lists of the model are the table, in its order
asked-call : (s : State) (buffer bytes : List ℕ) (c : Call)
    → first_of (entry_refusals s ++ event_refusals (length buffer) s c) ≡ first (holds (call s buffer (record { call = c; bytes = bytes }))) order
unfolding first first_of pick image_refusals entry_refusals event_refusals given_state holds turned_limits is_unsound bad_access bad_place short_read busy_call idle_call of_event short_buffer
asked-call s buffer bytes (Write address count) = refl
asked-call s buffer bytes (Read address count) = refl
asked-call s buffer bytes (Work l) = refl
asked-call s buffer bytes (Hardware l) = refl
asked-call s buffer bytes (Condition flag mask) = refl
asked-call s buffer bytes (Sample l p) = refl
asked-call s buffer bytes (Lasting flag on off) = refl
asked-call s buffer bytes Module = refl
asked-call s buffer bytes (Line on) = refl

-- a step answers what the event's refusals say
pub step-answer : (room : ℕ) (s : State) (e : Event) → (step early room s e).answer ≡ first_of (event_refusals room s e.call)
unfolding step answered_step done_step refused_step pick
step-answer room s e = split (is_done (first_of (event_refusals room s e.call))) (λ d. rw (d, pick)) (λ d. rw (d, pick))

-- refusals 1, 2 and 3 come before those of the event
entry_first : (s : State) (rs : List Refusal)
    → first_of (entry_refusals s ++ rs) ≡ pick (is_done (first_of (entry_refusals s))) (first_of rs) (first_of (entry_refusals s))
unfolding first_of pick image_refusals entry_refusals is_done
entry_first s rs = split (wrong_length s.image) (λ d. rw (d, pick, is_done))
    (λ d. split (is_flat s.image) (λ f. rw (d, f, pick, is_done))
    (λ f. split (is_sound s) (λ i. rw (d, f, i, pick, is_done)) (λ i. rw (d, f, i, pick, is_done))))

call-answer : (s : State) (buffer : List ℕ) (e : Event)
    → (call_outcome s buffer e).answer ≡ first_of (entry_refusals s ++ event_refusals (length buffer) s e.call)
unfolding call_outcome call_outcome_by step_outcome unchanged_outcome pick
call-answer s buffer e = rw entry_first (split (is_done (first_of (entry_refusals s)))
    (λ d. rw (d, pick) (step-answer (length buffer) s e)) (λ d. rw (d, pick)))

-- a list of events answers what its refusals say
pub list-answer : (s : State) (answers : List ℕ) (es : List Event) → (list_outcome s answers es).answer ≡ first_of (list_refusals (length answers) s (length es))
unfolding list_outcome list_outcome_by unchanged_outcome pick
list-answer s answers es = split (is_done (first_of (list_refusals (length answers) s (length es)))) (λ d. rw (d, pick)) (λ d. rw (d, pick))

-- the answer is the first in the order whose condition holds
first_asked : (q : Asked) → (outcome_of q).answer ≡ first (holds q) order
unfolding outcome_of start_outcome start_outcome_by first first_of pick image_refusals start_refusals entry_refusals list_refusals given_state holds turned_limits is_unsound of_event short_buffer
first_asked (start x) = refl
first_asked (call s buffer e) = call-answer s buffer e ∙ asked-call s buffer e.bytes e.call
first_asked (list s answers es) = list-answer s answers es

-- ---- the law

-- no answer stands twice in the order, and Done does not stand in it
order_once : all_below (length order) (λ j. all_below (length order) (λ k. implies (eqb (number (get_or order j Done)) (number (get_or order k Done))) (eqb j k))) ≡ true
unfolding all_below implies both
order_once = refl

order-not_done : all_below (length order) (λ k. not (eqb (number (get_or order k Done)) 0)) ≡ true
unfolding all_below both
order-not_done = refl

same_turn : (j k : ℕ) → j < length order → k < length order → get_or order j Done ≡ get_or order k Done → j ≡ k
same_turn j k hj hk e = eqb-true j k (implies_use _ _ (all_at (length order) _ (all_at (length order) _ order_once j hj) k hk) (eq-eqb _ _ (ap number e)))

not_done : (k : ℕ) → k < length order → get_or order k Done ≡ Done → ⊥
not_done k h e = clash (all_at (length order) _ order-not_done k h) (rw e)

module _ (q : Asked) where
  -- every input is answered: with 0, or with one of the order
  pub always_answered : ((outcome_of q).answer ≡ Done) ⊎ ((k : ℕ) × (k < length order) × ((outcome_of q).answer ≡ get_or order k Done))
  always_answered = elim (find (holds q) order) [
    | inl f ↦ inr (f.0, f.1.in_list, first_asked q ∙ first_at (holds q) order f.0 f.1)
    | inr n ↦ inl (first_asked q ∙ first_none (holds q) order n)
  ]

  -- a number is answered exactly when its condition holds and no earlier one in the order does
  pub refused_exactly : (k : ℕ) → k < length order → ((outcome_of q).answer ≡ get_or order k Done) ↔ FirstAt (holds q) order k
  refused_exactly k b = (
    λ e. elim (find (holds q) order) [
      | inl f ↦ let r : get_or order f.0 Done ≡ get_or order k Done = sym (first_at (holds q) order f.0 f.1) ∙ sym (first_asked q) ∙ e in
          subst (FirstAt (holds q) order) (same_turn f.0 k f.1.in_list b r) f.1
      | inr n ↦ absurd (not_done k b (sym e ∙ first_asked q ∙ first_none (holds q) order n))
    ],
    λ f. first_asked q ∙ first_at (holds q) order k f,
  )

  -- 0 is answered exactly when no condition holds
  pub done_exactly : ((outcome_of q).answer ≡ Done) ↔ NoneHolds (holds q) order
  done_exactly = (
    λ e. elim (find (holds q) order) [
      | inl f ↦ absurd (not_done f.0 f.1.in_list (sym (first_at (holds q) order f.0 f.1) ∙ sym (first_asked q) ∙ e))
      | inr n ↦ n
    ],
    λ n. first_asked q ∙ first_none (holds q) order n,
  )
