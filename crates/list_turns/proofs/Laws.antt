-- Laws of a list of events turn by turn: what its admission says, one turn more, and that the turns leave what the model's list leaves. Assumes nothing.
use mathlib.Core.Path.{◌≡◌, refl, sym, ap, ◌∙◌}
use mathlib.Core.List.{List, [], ◌∷◌, ◌++◌}
use Prim.Native.Nat.{ℕ, ◌+◌, ◌≤◌, ◌<◌}
use native.Mathlib.Numerals.{add-one}
use native.Mathlib.Omega.{arith}
use lib.ListN.{length, get_or, set, take, drop, length-take, length-append, drop_of_length-le}
use lib.Seq.{drop-cons, get_or-take, append_snoc, set_at, take-length}
use Rattle.bits.specs.Choice.{pick}
use Rattle.bits.proofs.Tests.{split, pick_true, pick-false}
use Rattle.model.specs.Map.{Image, image_length}
use Rattle.model.specs.Answers.{number, is_done}
use Rattle.model.specs.State.{State, state_with}
use Rattle.model.specs.Work.{early}
use Rattle.model.specs.Refusals.{first_of, list_refusals}
use Rattle.model.specs.Step.{step, run, ending}
use Rattle.contracts.specs.Forms.{IsOutcome}
use Rattle.model.specs.Outcome.{laid_over, step_outcome, unchanged_outcome, list_room, numbers_of, list_outcome_by, list_outcome}
use Rattle.model.specs.declared.answer.Answer.{Answer}
use Rattle.model.specs.declared.event.Call.TheVariants.{Work}
use Rattle.model.specs.declared.event.Event.{Event}
use Rattle.model.specs.declared.lane.Working.{Working}
use Rattle.contracts.specs.declared.Returned.{Returned}
use Rattle.laws_list.proofs.Admission.{list-fits}
use Rattle.list_runs.specs.declared.Run.{Run}
use Rattle.list_runs.specs.Runs.{noted_run, noted_answers}
use Rattle.list_turns.specs.Turns.{Playing, begin_by, begin_of, turn_by, turn_of, turns_of, played_of}

-- ---- the admission

module _ (n : ℕ) (x : Image) (answers : List ℕ) (w : Working) where
  abbrev admission : Answer
  admission = first_of (list_refusals (length answers) (state_with x w) n)

  pub begin_at : (begin_of n x answers w).r.at ≡ 0
  unfolding begin_of begin_by
  begin_at = refl

  ends : (begin_of n x answers w).r.end ≡ pick (is_done admission) n 0
  unfolding begin_of begin_by
  ends = refl

  pub begin_end : (begin_of n x answers w).r.end ≤ n
  begin_end = split (is_done admission)
      (λ d. rw (ends, pick_true n 0 d) (omega arith))
      (λ d. rw (ends, pick-false n 0 d) (omega arith))

  pub begin_room : (begin_of n x answers w).r.end ≤ length answers
  begin_room = split (is_done admission)
      (λ d. rw (ends, pick_true n 0 d) (list-fits (length answers) (state_with x w) n d).1)
      (λ d. rw (ends, pick-false n 0 d) (omega arith))

  pub begin_length : (i : ℕ) → i < (begin_of n x answers w).r.end → length x ≡ image_length
  begin_length i h = split (is_done admission)
      (λ d. (list-fits (length answers) (state_with x w) n d).0)
      (λ d. let g : i < 0 = rw (ends, pick-false n 0 d) at h in absurd (omega (arith, g)))

-- ---- one turn more

-- what lies past the end of a list of events
abbrev pub none : Event
none = record { call = Work 0; bytes = [] }

module _ (e : Event) (s : Playing) where
  pub turn_at : (turn_of e s).r.at ≡ s.r.at + 1
  unfolding turn_of turn_by
  turn_at = refl

  pub turn_end : (turn_of e s).r.end ≡ s.r.end
  unfolding turn_of turn_by
  turn_end = refl

module _ (es : List Event) (n : ℕ) (within : n ≤ length es) where
  pub turns_next : (i : ℕ) (s : Playing) → i < n → turns_of (drop i (take n es)) s ≡ turns_of (drop (i + 1) (take n es)) (turn_of (get_or es i none) s)
  unfolding turns_of
  turns_next i s h =
      let l : i < length (take n es) = simp length-take (omega arith) in
      rw (add-one, drop-cons (take n es) i none, get_or-take)

  pub turns_end : (i : ℕ) (s : Playing) → n ≤ i → turns_of (drop i (take n es)) s ≡ s
  unfolding turns_of
  turns_end i s h =
      let l : length (take n es) ≤ i = simp length-take (omega arith) in
      rw (drop_of_length-le (take n es))

-- ---- the turns leave what the model's list leaves

abbrev state_of : Playing → State
state_of s = state_with s.image s.r.left.working

turns_state : (es : List Event) (s : Playing) → state_of (turns_of es s) ≡ ending early list_room (state_of s) es
unfolding turns_of turn_of turn_by ending
turns_state [] s = refl
turns_state (e ∷ es) s = turns_state es (turn_of e s)

turns_answer : (es : List Event) (s : Playing) → (turns_of es s).r.left.answer ≡ s.r.left.answer
unfolding turns_of turn_of turn_by
turns_answer [] s = refl
turns_answer (e ∷ es) s = turns_answer es (turn_of e s)

turns_mask : (es : List Event) (s : Playing) → s.r.left.mask ≡ 0 → (turns_of es s).r.left.mask ≡ 0
unfolding turns_of turn_of turn_by
turns_mask [] s h = h
turns_mask (e ∷ es) s h = turns_mask es (turn_of e s) refl

-- one number more after those that are there
set_next : (p zs answers : List ℕ) (z v at : ℕ) → length p ≡ at → answers ≡ p ++ (z ∷ zs) → set answers at v ≡ (p ++ (v ∷ [])) ++ zs
set_next p zs answers z v at l e = ap (λ a. set a at v) e ∙ set_at p z zs v at l ∙ sym (append_snoc p v zs)

turns_answers : (es : List Event) (s : Playing) (p zs : List ℕ) → length p ≡ s.r.at → s.answers ≡ p ++ zs → length es ≤ length zs
    → (turns_of es s).answers ≡ p ++ laid_over (numbers_of (run early list_room (state_of s) es)) zs
unfolding turns_of turn_of turn_by run numbers_of laid_over
turns_answers [] s p zs l e h = e
turns_answers (d ∷ es) s p [] l e h = absurd (omega arith)
turns_answers (d ∷ es) s p (z ∷ zs) l e h =
    let v : ℕ = number (step early list_room (state_of s) d).answer in
    turns_answers es (turn_of d s) (p ++ (v ∷ [])) zs
    (length-append p (v ∷ []) ∙ ap (λ n. n + 1) l)
    (set_next p zs s.answers z v s.r.at l e)
    (omega arith)
    ∙ append_snoc p v _

-- a list that was played is the model's list
pub played_leaves : (es : List Event) (x : Image) (answers : List ℕ) (w : Working) (s : Playing) → s ≡ played_of es x answers w
    → IsOutcome (list_outcome (state_with x w) answers es) s.r.left s.image s.answers
unfolding list_outcome list_outcome_by begin_of begin_by unchanged_outcome turns_of
played_leaves es x answers w s e = split (is_done (admission (length es) x answers w))
    (λ d. rw (e, pick_true (length es) 0 d, take-length es, pick_true _ _ d)
    (record {
      answer = turns_answer es _;
      image = ap (λ t. t.image) (turns_state es _);
      working = ap (λ t. t.working) (turns_state es _);
      buffer = turns_answers es _ [] answers refl refl (list-fits (length answers) (state_with x w) (length es) d).1;
      mask = turns_mask es _ refl;
    }))
    (λ d. rw (e, pick-false (length es) 0 d, pick-false _ _ d)
    (record { answer = refl; image = refl; working = refl; buffer = refl; mask = refl }))

-- a turn from what its step left
pub turn_leaves : (e : Event) (s : Playing) (l : Returned) (q : Run) (y buffer after answers : List ℕ) (room : ℕ) → room ≡ list_room
    → IsOutcome (step_outcome (step early room (state_of s) e) buffer) l y after → q ≡ noted_run s.r l.working → answers ≡ noted_answers s.r l.answer s.answers
    → record { image = y; answers = answers; r = q } ≡ turn_of e s
unfolding turn_of turn_by step_outcome
turn_leaves e s l q y buffer after answers room n h p a = rw (← n, p, a, h.image, h.answer, h.working)
