-- What a file prints tells what was found of it: `bad` with a number exactly where that was its answer. Assumes nothing.
use Rattle.std.proofs.Common.{Err, Ok, Result}
use mathlib.Core.Path.{◌≡◌, refl, sym, ap, ◌∙◌}
use mathlib.Core.List.{List, [], ◌∷◌}
use mathlib.Core.Logic.{◌↔◌}
use Prim.Native.Nat.{ℕ}
use native.Mathlib.Omega.{arith}
use lib.Dec.{eqb}
use lib.ListN.{get_or}
use Rattle.bits.specs.Choice.{pick}
use Rattle.model.specs.Answers.{number}
use Rattle.model.specs.Step.{Stepped}
use Rattle.model.specs.File.{file_check_up_to}
use Rattle.model.specs.Text.{ascii, newline, digit_text, decimal_up_to, decimal, line, bad_line}
use Rattle.model.specs.Night.{lines_from, night_of, printed_text_by, printed_up_to}
use Rattle.model.specs.declared.answer.Answer.{Answer}
use Rattle.model.specs.declared.answer.Answer.TheVariants.{Done, WrongLength, FlatMemory, Unsound, BadAccess, ShortBuffer, NothingOnLane, Busy, NoSuchTarget, Malformed, BackToFront}
use Rattle.laws.specs.Files.{Fault}
use Rattle.laws.proofs.Files.{malformed_exactly}

-- the number that a bad line shows: its one digit, or 10
shown_number : List ℕ → Answer
shown_number text = pick (eqb (get_or text 5 0) newline) (by_digit (get_or text 4 0)) BackToFront
  where
    by_digit : ℕ → Answer
    by_digit d =
        pick (eqb d 0x30) Done
        (pick (eqb d 0x31) WrongLength
        (pick (eqb d 0x32) FlatMemory
        (pick (eqb d 0x33) Unsound
        (pick (eqb d 0x34) BadAccess
        (pick (eqb d 0x35) ShortBuffer
        (pick (eqb d 0x36) NothingOnLane
        (pick (eqb d 0x37) Busy
        (pick (eqb d 0x38) NoSuchTarget Malformed))))))))

shown_back : (a : Answer) → shown_number (bad_line (number a)) ≡ a
unfolding shown_number bad_line ascii decimal decimal_up_to digit_text pick
shown_back Done = refl
shown_back WrongLength = refl
shown_back FlatMemory = refl
shown_back Unsound = refl
shown_back BadAccess = refl
shown_back ShortBuffer = refl
shown_back NothingOnLane = refl
shown_back Busy = refl
shown_back NoSuchTarget = refl
shown_back Malformed = refl
shown_back BackToFront = refl

-- no line of a night begins as a bad line does
first_of_bad : (n : ℕ) → get_or (bad_line n) 0 0 ≡ 0x62
unfolding bad_line ascii
first_of_bad n = refl

not_bad : (os : List Stepped) (n : ℕ) → lines_from 0 os ≡ bad_line n → ⊥
unfolding lines_from line decimal decimal_up_to digit_text pick
not_bad [] n e = let z : ◌≡◌ {A = ℕ} 0 0x62 = ap (λ text. get_or text 0 0) e ∙ first_of_bad n in omega arith
not_bad (o ∷ os) n e = let z : ◌≡◌ {A = ℕ} 0x30 0x62 = ap (λ text. get_or text 0 0) e ∙ first_of_bad n in omega arith

bad_back : (file : List ℕ) (r : Result ℕ Answer) (a : Answer) → printed_text_by r file ≡ bad_line (number a) → r ≡ Err a
unfolding printed_text_by
bad_back file (Err b) a e = ap Err (sym (shown_back b) ∙ ap shown_number e ∙ shown_back a)
bad_back file (Ok n) a e = absurd (not_bad (night_of file) (number a) e)

module _ (limit : ℕ) (file : List ℕ) where
  -- `bad` and a number is printed exactly where the check answers that number
  pub printed_exactly : (a : Answer) → (printed_up_to limit file ≡ bad_line (number a)) ↔ (file_check_up_to limit file ≡ Err a)
  unfolding printed_up_to printed_text_by
  printed_exactly a = (bad_back file (file_check_up_to limit file) a, λ e. ap (λ r. printed_text_by r file) e)

  -- `bad 9` exactly where the file has a fault
  pub printed-malformed : (printed_up_to limit file ≡ bad_line 9) ↔ Fault limit file
  printed-malformed = (
    λ e. (malformed_exactly limit file).0 ((printed_exactly Malformed).0 e),
    λ f. (printed_exactly Malformed).1 ((malformed_exactly limit file).1 f),
  )
