-- What becomes of a message, from the code's tests. Assumes nothing.
use mathlib.Core.Path.{◌≡◌}
use mathlib.Core.Bool.{true, false}
use Prim.Native.Nat.{ℕ, ◌≤◌, ◌<◌}
use lib.Dec.{eqb}
use lib.ListN.{get_or}
use borrow.Author.Tests.{le-leb, lt-leb}
use Rattle.bits.specs.Choice.{pick, both}
use Rattle.bits.specs.Word.{word}
use Rattle.model.specs.Commands.{commands, body_limit, right_code, is_code_right, status_among, status_of}
use Rattle.model.specs.Map.{Image, command_number, body_length, message_code}
use Rattle.model.specs.declared.command.CommandStatus.{CommandStatus}
use Rattle.model.specs.declared.command.CommandStatus.TheVariants.{WrongCode}

module _ (x : Image) where
  -- a body that has no room is wrong, whatever its code
  pub code_long : body_limit < get_or x body_length 0 → is_code_right x ≡ false
  unfolding is_code_right both
  code_long l = rw (lt-leb (get_or x body_length 0) body_limit l)

  pub code_by : (code : ℕ) → get_or x body_length 0 ≤ body_limit → code ≡ right_code x (get_or x body_length 0) → is_code_right x ≡ eqb (get_or x message_code 0) code
  unfolding is_code_right both
  code_by code l e = rw (le-leb (get_or x body_length 0) body_limit l, e)

  -- the code is asked first
  pub status-wrong : is_code_right x ≡ false → status_of x ≡ WrongCode
  unfolding status_of pick
  status-wrong e = rw e

  pub status-right : (number : ℕ) (status : CommandStatus) → is_code_right x ≡ true → number ≡ word 2 x command_number → status ≡ status_among commands number
      → status ≡ status_of x
  unfolding status_of pick
  status-right number status e n s = rw (e, ← n) s
