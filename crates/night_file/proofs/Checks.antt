-- Laws of the check of a night file: its tests as code computes them, and what the check finds, in its order. Assumes nothing.
use Rattle.std.proofs.Common.{Err, Ok}
use mathlib.Core.Path.{◌≡◌, refl, sym, ◌∙◌}
use mathlib.Core.Bool.{Bool, true, false, not}
use mathlib.Core.List.{List, []}
use Prim.Native.Nat.{ℕ, ◌+◌, ◌*◌, ◌≤◌, ◌<◌}
use native.Mathlib.Numerals.{add-one}
use native.Mathlib.Omega.{arith}
use lib.ListN.{length, get_or}
use denote.Enum.Bare.{sameb}
use borrow.Author.Tests.{eqb-true, leb-true, ne_eqb}
use Rattle.model.specs.contracts.answer.Answer.{the_type}
use Rattle.model.proofs.States.{not_done, is_done_lem}
use Rattle.bits.specs.Choice.{both}
use Rattle.bits.specs.Loop.{all_below}
use Rattle.bits.proofs.Tests.{split, clash, both_i, both_l, both_r, pick_true, pick-false}
use Rattle.bits.proofs.Loops.{all_at, all_ext}
use Rattle.model.specs.Refusals.{first_of, start_refusals}
use Rattle.model.specs.File.{edition_of, record_count, is_header, is_whole_length, laid_out, image_in, record_in, is_record, is_well_formed, file_check_by, file_check_up_to, image_offset, records_offset, record_length}
use Rattle.model.specs.declared.answer.Answer.{Answer}
use Rattle.model.specs.declared.answer.Answer.TheVariants.{Done, Malformed}
use Rattle.night_records.specs.Edition.{row_of}
use Rattle.night_records.specs.declared.Edition.{Edition}
use Rattle.night_file.specs.Parts.{IsNight}
use Rattle.night_records.proofs.Records.{both_left, both_right}

-- ---- a turn of a loop over all numbers below a count, and its end at one that fails
pub all_turn : (n : ℕ) (p : ℕ → Bool) → all_below n p ≡ true → p n ≡ true → all_below (n + 1) p ≡ true
unfolding all_below
all_turn n p a h = rw add-one (both_i a h)

pub all_fails : (n k : ℕ) (p : ℕ → Bool) → k < n → p k ≡ false → all_below n p ≡ false
all_fails n k p h e = split (all_below n p) (λ a. absurd (clash (all_at n p a k h) e)) (λ a. a)

-- ---- the frame
pub short_frame : (limit : ℕ) (file : List ℕ) → length file < image_offset → both (is_header limit file) (is_whole_length file) ≡ false
unfolding is_whole_length
short_frame limit file h = both_right _ _ (ne_eqb (length file) (records_offset (edition_of file) + record_length * record_count file) (omega arith))

pub framed_length : (limit : ℕ) (file : List ℕ) → both (is_header limit file) (is_whole_length file) ≡ true
    → length file ≡ records_offset (edition_of file) + record_length * record_count file
unfolding is_whole_length
framed_length limit file e = eqb-true _ _ (both_r _ _ e)

pub header_few : (limit : ℕ) (file : List ℕ) → both (is_header limit file) (is_whole_length file) ≡ true → record_count file ≤ limit
unfolding is_header
header_few limit file h = leb-true _ _ (both_l _ _ (both_r _ _ (both_r _ _ (both_l _ _ h))))

-- ---- what the check finds
module _ (limit : ℕ) (file : List ℕ) where
  pub finds_no_frame : both (is_header limit file) (is_whole_length file) ≡ false → file_check_up_to limit file ≡ Err Malformed
  unfolding file_check_up_to is_well_formed
  finds_no_frame e = pick-false _ _ (both_left _ _ e)

  module _ (edition : Edition) (image : List ℕ) (records : List (List ℕ)) (night : IsNight file edition image records) where
    abbrev are_records : Bool
    are_records = all_below (length records) (λ k. is_record (row_of edition) (get_or records k []))

    same_records : all_below (record_count file) (λ k. is_record (edition_of file) (record_in file k)) ≡ are_records
    same_records = rw (← night.counted) (all_ext (length records) _ _ (λ k h. rw (night.named, night.each k h)))

    pub finds_no_record : are_records ≡ false → file_check_up_to limit file ≡ Err Malformed
    unfolding file_check_up_to is_well_formed
    finds_no_record r = pick-false _ _ (both_right _ _ (same_records ∙ r))

    -- the answer of start, by whether it is Done
    module _ (f : both (is_header limit file) (is_whole_length file) ≡ true) (r : are_records ≡ true) (a : Answer) (t : Bool)
        (e : a ≡ first_of (start_refusals (laid_out image))) (p : t ≡ not (sameb the_type a Done)) where
      well_formed : is_well_formed limit file ≡ true
      unfolding is_well_formed
      well_formed = both_i f (same_records ∙ r)

      answered : first_of (start_refusals (image_in file)) ≡ a
      answered = rw (← night.carried) (sym e)

      pub finds_refused : t ≡ true → file_check_up_to limit file ≡ Err a
      unfolding file_check_up_to file_check_by
      finds_refused h = rw answered (pick_true _ _ well_formed ∙ pick-false _ _ (not_done a a t refl p h))

      pub finds_good : t ≡ false → file_check_up_to limit file ≡ Ok (length records)
      unfolding file_check_up_to file_check_by
      finds_good h = rw (answered, night.counted) (pick_true _ _ well_formed ∙ pick_true _ _ (is_done_lem a a t refl p h))
