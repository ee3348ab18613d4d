-- Public calls, a list of events and a night file say the same: the promises of specs/SaySame.antt, kept. Assumes nothing.
use Rattle.std.proofs.Common.{Err, Ok}
use mathlib.Core.Path.{◌≡◌, refl, sym, ap, ◌∙◌}
use mathlib.Core.List.{List, [], ◌∷◌, ◌++◌}
use Prim.Native.Nat.{ℕ, suc}
use native.Mathlib.Omega.{arith}
use lib.ListN.{length, take, drop}
use borrow.Author.Tests.{le-ltb}
use Rattle.bits.specs.Choice.{pick}
use Rattle.bits.proofs.Tests.{split}
use Rattle.bits.proofs.Loops.{length-tab}
use Rattle.model.specs.Answers.{number, is_done}
use Rattle.model.specs.State.{State}
use Rattle.model.specs.Work.{early}
use Rattle.model.specs.Start.{started_state}
use Rattle.model.specs.Refusals.{first_of, start_refusals, list_refusals}
use Rattle.model.specs.Step.{Stepped, step, run}
use Rattle.model.specs.Outcome.{laid_over, list_room, numbers_of, start_outcome_by, start_outcome, step_outcome, list_outcome_by, list_outcome}
use Rattle.model.specs.File.{edition_of, record_limit, record_count, image_in, record_in, event_of, events_in, is_well_formed, file_check_by, file_check_up_to}
use Rattle.model.specs.Text.{line}
use Rattle.model.specs.Night.{lines_from, night_of, printed_text_by, printed_up_to, printed_text}
use Rattle.model.specs.declared.answer.Answer.{Answer}
use Rattle.model.specs.declared.answer.Answer.TheVariants.{Done}
use Rattle.laws.specs.Calls.{Called}
use Rattle.laws.proofs.Unchanged.{done_is, laid_front, laid_rest}
use Rattle.laws.proofs.Reading.{step_gives}
use Rattle.laws_sound.specs.Reached.{Accepted, StartDone, events_of, Roomy, none, one}
use Rattle.laws_sound.proofs.Reached.{start_leaves, start-accepted, still_accepted, call_is_step}
use Rattle.laws_sound.proofs.Once.{same_step}
use Rattle.laws_list.specs.SaySame.{Replayed, CallsOf, lines_of, lines_with, shown_in, HasRoom, list_call, SaySame}
use Rattle.laws_list.proofs.Runs.{length_run}
use Rattle.laws_list.proofs.Admission.{list-good}

-- the lines of a run are those of calls, each lent a buffer with room for any read
run-lines : (index : ℕ) (s : State) (cs : List Called) → Accepted s → Roomy cs → lines_from index (run early list_room s (events_of cs)) ≡ lines_of index s cs
unfolding lines_from run lines_of step_outcome
run-lines index s [] a none = refl
run-lines index s (c ∷ cs) a (one n r) =
    let o : Stepped = step early list_room s c.event in
    rw (call_is_step s c a, same_step (length c.buffer) s c.event n, step_gives early s list_room c.event c.buffer)
    (ap (λ text. line index (number o.answer) o.bytes ++ text) (run-lines (suc index) o.state cs (still_accepted list_room s c.event a) r))

-- the lines of steps are the lines with the steps' numbers and bytes
lines_with_lem : (index : ℕ) (os : List Stepped) → lines_from index os ≡ lines_with index (numbers_of os) (shown_in os)
unfolding lines_from lines_with numbers_of shown_in
lines_with_lem index [] = refl
lines_with_lem index (o ∷ os) = ap (λ text. line index (number o.answer) o.bytes ++ text) (lines_with_lem (suc index) os)

length_numbers : (os : List Stepped) → length (numbers_of os) ≡ length os
unfolding numbers_of
length_numbers [] = refl
length_numbers (o ∷ os) = ap suc (length_numbers os)

-- what is refused is not good
not_good : (a : Answer) (n : ℕ) → Err a ≡ Ok n → ⊥
not_good a n e = let z : ◌≡◌ {A = ℕ} 0 1 = cc in omega arith

module _ (file : List ℕ) (replayed : Replayed file) where
  -- start of its image is done
  begins : StartDone (image_in file)
  unfolding file_check_up_to file_check_by start_outcome start_outcome_by pick
  begins = split (is_well_formed record_limit file)
      (λ w. split (is_done (first_of (start_refusals (image_in file))))
      (λ d. done_is _ d)
      (λ d. absurd (not_good _ _ (rw (w, d, pick) at replayed))))
      (λ w. absurd (not_good _ _ (rw (w, pick) at replayed)))

  entered : Accepted (started_state (image_in file))
  entered = start-accepted (image_in file) begins

  count_is : length (events_in file) ≡ record_count file
  unfolding events_in
  count_is = length-tab (record_count file) (λ k. event_of (edition_of file) (record_in file k))

  numbers_length : length (numbers_of (night_of file)) ≡ record_count file
  unfolding night_of
  numbers_length = length_numbers _ ∙ length_run early list_room (started_state (image_in file)) (events_in file) ∙ count_is

  prints : printed_text file ≡ lines_from 0 (night_of file)
  unfolding printed_up_to printed_text_by
  prints = ap (λ found. printed_text_by found file) replayed

  -- THE THEOREM for every file that is replayed, and all calls of its records: it prints what they give
  pub file_is_calls : (cs : List Called) → CallsOf file cs → printed_text file ≡ lines_of 0 (start_outcome (image_in file)).state cs
  unfolding night_of
  file_is_calls cs C =
      rw (start_leaves (image_in file) begins)
      (prints ∙ ap (λ es. lines_from 0 (run early list_room (started_state (image_in file)) es)) (sym C.events) ∙ run-lines 0 (started_state (image_in file)) cs entered C.roomy)

  module _ (answers : List ℕ) (roomy : HasRoom file answers) where
    admitted : first_of (list_refusals (length answers) (started_state (image_in file)) (length (events_in file))) ≡ Done
    unfolding is_done
    admitted = list-good (length answers) (started_state (image_in file)) (length (events_in file)) (ap is_done entered) (rw count_is (le-ltb _ _ roomy))

    called : (list_call file answers).buffer ≡ laid_over (numbers_of (night_of file)) answers
    unfolding list_outcome list_outcome_by night_of is_done pick
    called = rw (start_leaves (image_in file) begins, admitted)

    -- THE THEOREM for every file that is replayed, and every answer buffer with room for its records
    pub say_same : SaySame file answers
    unfolding list_outcome list_outcome_by is_done pick
    say_same = record {
      taken = rw (start_leaves (image_in file) begins, admitted);
      same = prints ∙ lines_with_lem 0 (night_of file) ∙ ap (λ ns. lines_with 0 ns (shown_in (night_of file))) (sym (ap (take (record_count file)) called ∙ laid_front (record_count file) _ answers numbers_length));
      rest = ap (drop (record_count file)) called ∙ laid_rest (record_count file) _ answers numbers_length;
    }
