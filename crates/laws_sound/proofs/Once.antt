-- Asking for 1, 2 and 3 once, before the first of several calls, is asking at every one; so a list of events leaves what calls of them leave.
use mathlib.Core.Path.{◌≡◌, refl, sym, ap, ◌∙◌}
use mathlib.Core.Bool.{false}
use mathlib.Core.List.{List, [], ◌∷◌, ◌++◌}
use Prim.Native.Nat.{ℕ, ◌≤◌}
use native.Mathlib.Omega.{arith}
use lib.Dec.{ltb}
use lib.ListN.{length}
use borrow.Author.Tests.{ltb-false, le-ltb}
use Rattle.bits.specs.Choice.{pick}
use Rattle.bits.specs.Loop.{tab}
use Rattle.bits.proofs.Tests.{split, either_l, either_r, pick_true, pick-false}
use Rattle.bits.proofs.Loops.{length-tab}
use Rattle.model.specs.Answers.{number}
use Rattle.model.specs.State.{State}
use Rattle.model.specs.Work.{early}
use Rattle.model.specs.Access.{is_bad_access, read_limit}
use Rattle.model.specs.Refusals.{Refusal, first_of, entry_refusals, event_refusals, list_refusals}
use Rattle.model.specs.Step.{step, run, ending}
use Rattle.model.specs.Outcome.{laid_over, step_outcome, list_room, numbers_of, list_outcome_by, list_outcome}
use Rattle.model.specs.declared.answer.Answer.TheVariants.{Done}
use Rattle.model.specs.declared.event.Call.{Call}
use Rattle.model.specs.declared.event.Call.TheVariants.{Write, Read, Work, Hardware, Condition, Sample, Lasting, Module, Line}
use Rattle.model.specs.declared.event.Event.{Event}
use Rattle.laws.specs.Calls.{Called, outcomes, state_after}
use Rattle.laws.proofs.Answered.{list-answer}
use Rattle.laws_sound.specs.Reached.{Accepted, along, through, step_at, events_of, answers_of, Roomy, none, one}
use Rattle.laws_sound.proofs.Reached.{is_done_lem, still_accepted, call_is_step}

-- ---- calls from an accepted state are steps that ask no more

pub asked_once : (s : State) (cs : List Called) → Accepted s → outcomes s cs ≡ along step_at s cs
unfolding outcomes along step_outcome
asked_once s [] a = refl
asked_once s (c ∷ cs) a =
    rw (call_is_step s c a)
    (ap (λ os. step_at s c ∷ os) (asked_once (step_at s c).state cs (still_accepted (length c.buffer) s c.event a)))

pub asked_once_state : (s : State) (cs : List Called) → Accepted s → state_after s cs ≡ through step_at s cs
unfolding state_after through step_outcome
asked_once_state s [] a = refl
asked_once_state s (c ∷ cs) a =
    rw (call_is_step s c a) (asked_once_state (step_at s c).state cs (still_accepted (length c.buffer) s c.event a))

-- ---- a read has the same room in any buffer that is long enough

read_room : (room address count : ℕ) → list_room ≤ room → is_bad_access read_limit address count ≡ false → ltb room count ≡ false
unfolding is_bad_access
read_room room address count n e =
    let h : count ≤ read_limit = ltb-false _ _ (either_l _ _ (either_r _ _ e)) in
    le-ltb room count (omega arith)

same_refusals : (room : ℕ) (s : State) (c : Call) → list_room ≤ room → first_of (event_refusals room s c) ≡ first_of (event_refusals list_room s c)
unfolding event_refusals first_of pick
same_refusals room s (Write address count) n = refl
same_refusals room s (Read address count) n = split (is_bad_access read_limit address count)
    (λ e. rw (e, pick))
    (λ e. rw (read_room room address count n e, read_room list_room address count (omega arith) e))
same_refusals room s (Work l) n = refl
same_refusals room s (Hardware l) n = refl
same_refusals room s (Condition flag mask) n = refl
same_refusals room s (Sample l p) n = refl
same_refusals room s (Lasting flag on off) n = refl
same_refusals room s Module n = refl
same_refusals room s (Line on) n = refl

pub same_step : (room : ℕ) (s : State) (e : Event) → list_room ≤ room → step early room s e ≡ step early list_room s e
unfolding step
same_step room s e n = rw (same_refusals room s e.call n)

-- ---- a list of events is calls

run_numbers : (s : State) (cs : List Called) → Roomy cs → answers_of (along step_at s cs) ≡ numbers_of (run early list_room s (events_of cs))
unfolding along run numbers_of step_outcome
run_numbers s [] none = refl
run_numbers s (c ∷ cs) (one n r) =
    rw (same_step (length c.buffer) s c.event n)
    (ap (λ ns. number (step early list_room s c.event).answer ∷ ns) (run_numbers (step early list_room s c.event).state cs r))

run_ends : (s : State) (cs : List Called) → Roomy cs → through step_at s cs ≡ ending early list_room s (events_of cs)
unfolding through ending step_outcome
run_ends s [] none = refl
run_ends s (c ∷ cs) (one n r) = rw (same_step (length c.buffer) s c.event n) (run_ends (step early list_room s c.event).state cs r)

-- a longer list of refusals refuses more
fewer_refusals : (rs ts : List Refusal) → first_of (rs ++ ts) ≡ Done → first_of rs ≡ Done
unfolding first_of
fewer_refusals [] ts e = refl
fewer_refusals (r ∷ rs) ts e = split r.when
    (λ w. pick_true _ _ w ∙ sym (pick_true _ _ w) ∙ e)
    (λ w. pick-false _ _ w ∙ fewer_refusals rs ts (sym (pick-false _ _ w) ∙ e))

-- what a list of events that is done leaves is what calls of these events, each lent a buffer with room for any read, leave one after the other
pub list_is_calls : (s : State) (answers : List ℕ) (cs : List Called) → Roomy cs
    → (list_outcome s answers (events_of cs)).answer ≡ Done
    → ((list_outcome s answers (events_of cs)).state ≡ state_after s cs)
    × ((list_outcome s answers (events_of cs)).buffer ≡ laid_over (answers_of (outcomes s cs)) answers)
unfolding list_outcome list_outcome_by list_refusals
list_is_calls s answers cs r d =
    let e : first_of (list_refusals (length answers) s (length (events_of cs))) ≡ Done = sym (list-answer s answers (events_of cs)) ∙ d in
    let a : Accepted s = fewer_refusals (entry_refusals s) _ e in
    rw (pick_true _ _ (is_done_lem e)) (
      sym (asked_once_state s cs a ∙ run_ends s cs r),
      ap (λ ns. laid_over ns answers) (sym (ap answers_of (asked_once s cs a) ∙ run_numbers s cs r)),
    )

-- every list of events is that of such calls
pub roomy-calls : (es : List Event) → (cs : List Called) × Roomy cs × (events_of cs ≡ es)
roomy-calls [] = ([], none, refl)
roomy-calls (e ∷ es) =
    let r = roomy-calls es in
    let zeros : List ℕ = tab list_room (λ k. 0) in
    let n : list_room ≤ length zeros = omega (arith, length-tab {A = ℕ} list_room (λ k. 0)) in
    (record { event = e; buffer = zeros } ∷ r.0, one n r.1, ap (λ ds. e ∷ ds) r.2)
