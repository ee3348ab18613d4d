-- Laws of what the check of a file finds: how long a good file is. Assumes nothing.
use Rattle.std.proofs.Common.{Ok}
use mathlib.Core.Path.{◌≡◌, sym, ◌∙◌}
use mathlib.Core.Bool.{true}
use mathlib.Core.List.{List}
use Prim.Native.Nat.{ℕ, ◌+◌, ◌*◌, ◌≤◌}
use native.Mathlib.Omega.{arith}
use lib.ListN.{length}
use Rattle.bits.proofs.Tests.{split, both_l, pick_true, pick-false}
use Rattle.model.specs.Answers.{is_done}
use Rattle.model.specs.Refusals.{first_of, start_refusals}
use Rattle.model.specs.File.{edition_of, record_count, image_in, is_well_formed, file_check_by, file_check_up_to, file_check, records_offset, record_length, record_limit}
use Rattle.night_file.proofs.Checks.{framed_length, header_few}

-- a good file has its whole length, and its count is its header's
pub record IsGood (file : List ℕ) (count : ℕ) : Type 0 where
  pub whole : length file ≡ records_offset (edition_of file) + record_length * count
  pub few : count ≤ record_limit
  pub counted : record_count file ≡ count

good-count : (file : List ℕ) (n : ℕ) → is_well_formed record_limit file ≡ true → record_count file ≡ n → IsGood file n
unfolding is_well_formed
good-count file n w e =
    record {
      whole = rw (← e) (framed_length record_limit file (both_l _ _ w));
      few = rw (← e) (header_few record_limit file (both_l _ _ w));
      counted = e;
    }

pub good_file_lem : (file : List ℕ) (count : ℕ) → file_check file ≡ Ok count → IsGood file count
unfolding file_check_up_to file_check_by
good_file_lem file count g = split (is_well_formed record_limit file)
    (λ w. split (is_done (first_of (start_refusals (image_in file))))
    (λ f. let e = sym g ∙ pick_true _ _ w ∙ pick_true _ _ f in let q : record_count file ≡ count = cc e in good-count file count w q)
    (λ f. let e = sym g ∙ pick_true _ _ w ∙ pick-false _ _ f in let z : ◌≡◌ {A = ℕ} 0 1 = cc e in absurd (omega arith)))
    (λ w. let e = sym g ∙ pick-false _ _ w in let z : ◌≡◌ {A = ℕ} 0 1 = cc e in absurd (omega arith))
