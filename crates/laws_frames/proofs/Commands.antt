-- A command message: what it leaves of the image, and what it looks at. Assumes nothing.
use mathlib.Core.Path.{◌≡◌, refl, ap₂, ◌∙◌}
use mathlib.Core.Bool.{true}
use Prim.Native.Nat.{ℕ, zero, suc, ◌+◌, ◌≤◌, ◌<◌}
use native.Mathlib.Omega.{arith}
use lib.Dec.{leb}
use lib.ListN.{length, get_or, set, length-set}
use lib.Seq.{get_or-set_same, get_or-set_other}
use borrow.Author.Tests.{leb-true}
use Rattle.bits.specs.Choice.{both}
use Rattle.bits.specs.Loop.{each}
use Rattle.bits.specs.Place.{put}
use Rattle.bits.proofs.Tests.{split}
use Rattle.bits.proofs.Loops.{each_ind, each_skip, each_hit}
use Rattle.bits.proofs.Words.{word_ext}
use Rattle.model.specs.Map.{Image, image_length, page9_f, command_status, module_flags, firmware_major, firmware_minor, command_number, body_length, message_code, reply_length, reply_code, message_body}
use Rattle.model.specs.Commands.{sum_of, check_code, body_limit, right_code, is_code_right, status_of, length_of, reply_of, with_reply_header, with_reply, replied_image, completed_image, command_image}
use Rattle.model.specs.declared.command.Command.{Command}
use Rattle.model.specs.declared.command.Command.TheVariants.{QueryStatus, ModuleFeatures, FirmwareFeatures, FirmwareInfo}
use Rattle.model.specs.declared.command.CommandStatus.{CommandStatus}
use Rattle.model.specs.declared.command.CommandStatus.TheVariants.{Success, UnknownNumber, WrongCode}
use Rattle.laws_frames.specs.Frames.{Beside, SameWithin, SameOffCommand}
use mathlib.Core.Logic.{◌≢◌, inl, inr}

-- ---- what it leaves

off_trans : {x y z : Image} → SameOffCommand x y → SameOffCommand y z → SameOffCommand x z
off_trans p q = record { size = q.size ∙ p.size; byte = λ i f s o. q.byte i f s o ∙ p.byte i f s o }

off_set : (x : Image) (j v : ℕ) → ((i : ℕ) → i ≢ module_flags → i ≢ command_status → Beside reply_length image_length i → i ≢ j) → SameOffCommand x (set x j v)
off_set x j v h = record { size = length-set x j v; byte = λ i f s o. get_or-set_other x j i v 0 (h i f s o) }

-- every reply fits the body
pub reply-fits : (c : Command) → length_of c ≤ body_limit
reply-fits QueryStatus = omega arith
reply-fits ModuleFeatures = omega arith
reply-fits FirmwareFeatures = omega arith
reply-fits FirmwareInfo = omega arith

-- the bytes from 134 on
off_reply : (x : Image) (j v : ℕ) → reply_length ≤ j → j < image_length → SameOffCommand x (set x j v)
off_reply x j v a b = off_set x j v (λ i f s o e. elim o [ inl h ↦ omega arith | inr h ↦ omega arith ])

header_off : (n code : ℕ) (x : Image) → SameOffCommand x (with_reply_header n code x)
unfolding with_reply_header
header_off n code x = off_trans (off_reply x reply_length n (omega arith) (omega arith)) (off_reply _ reply_code code (omega arith) (omega arith))

reply_off : (n : ℕ) (f : ℕ → ℕ) (x : Image) → n ≤ body_limit → SameOffCommand x (with_reply n f x)
unfolding with_reply
reply_off n f x b = each_ind (λ k. true) (λ k y. set y (message_body + k) (f k)) (SameOffCommand x) n
    (λ k y l e p. off_trans p (off_reply y (message_body + k) (f k) (omega arith) (omega arith))) _ (header_off _ _ x)

replied_off : (status : CommandStatus) (x : Image) → SameOffCommand x (replied_image status x)
unfolding replied_image
replied_off (Success c) x = reply_off (length_of c) (reply_of x c) x (reply-fits c)
replied_off UnknownNumber x = header_off _ _ x
replied_off WrongCode x = header_off _ _ x

completed_off : (status : CommandStatus) (x : Image) → SameOffCommand x (completed_image status x)
unfolding completed_image put
completed_off status x = off_trans (off_set x command_status _ (λ i f s o. s)) (off_set _ module_flags _ (λ i f s o. f))

-- a command changes lower 8, lower 37 and 9Fh:134-255 alone
pub command_off : (x : Image) → SameOffCommand x (command_image x)
unfolding command_image
command_off x = off_trans (replied_off (status_of x) x) (completed_off (status_of x) _)

-- ---- what it looks at

pub sum_ext : (n : ℕ) (f g : ℕ → ℕ) → ((k : ℕ) → k < n → f k ≡ g k) → sum_of n f ≡ sum_of n g
unfolding sum_of
sum_ext zero f g h = refl
sum_ext (suc n) f g h = ap₂ ◌+◌ (sum_ext n f g (λ k l. h k (omega arith))) (h n (omega arith))

-- of the message page 9Fh alone
module _ (x y : Image) (same : SameWithin page9_f image_length x y) where
  right-same : (n : ℕ) → n ≤ body_limit → right_code y n ≡ right_code x n
  unfolding right_code
  right-same n h = rw (
    sum_ext 5 (λ k. get_or y (command_number + k) 0) (λ k. get_or x (command_number + k) 0) (λ k l. same (command_number + k) (omega arith) (omega arith)),
    sum_ext n (λ k. get_or y (message_body + k) 0) (λ k. get_or x (message_body + k) 0) (λ k l. same (message_body + k) (omega arith) (omega arith)),
  )

  code_same : is_code_right y ≡ is_code_right x
  unfolding is_code_right both
  code_same = rw (same body_length (omega arith) (omega arith), same message_code (omega arith) (omega arith))
      (split (leb (get_or x body_length 0) body_limit)
      (λ e. rw (e, both, right-same (get_or x body_length 0) (leb-true _ _ e)))
      (λ e. rw (e, both)))

  pub status-of-same : status_of y ≡ status_of x
  unfolding status_of
  status-of-same = rw (code_same, word_ext 2 y x command_number (λ k b. same (command_number + k) (omega arith) (omega arith)))

-- of the rest lower 39 and 40 alone
pub reply-same : (x y : Image) (c : Command) (k : ℕ) → get_or y firmware_major 0 ≡ get_or x firmware_major 0 → get_or y firmware_minor 0 ≡ get_or x firmware_minor 0
    → reply_of y c k ≡ reply_of x c k
unfolding reply_of
reply-same x y c k major minor = rw (major, minor)

-- ---- what it leaves where

-- 134 and 135
module _ (n code : ℕ) (x : Image) (size : length x ≡ image_length) where
  pub header_length : get_or (with_reply_header n code x) reply_length 0 ≡ n
  unfolding with_reply_header
  header_length = get_or-set_other (set x reply_length n) reply_code reply_length code 0 (omega arith) ∙ get_or-set_same x reply_length n 0 (omega arith)

  pub header_code : get_or (with_reply_header n code x) reply_code 0 ≡ code
  unfolding with_reply_header
  header_code = get_or-set_same (set x reply_length n) reply_code code 0 (omega (arith, length-set x reply_length n))

-- a reply of n bytes: its length, its code, and its bytes
module _ (n : ℕ) (f : ℕ → ℕ) (x : Image) (size : length x ≡ image_length) (b : n ≤ body_limit) where
  before_body : (i : ℕ) → i < message_body → get_or (with_reply n f x) i 0 ≡ get_or (with_reply_header n (check_code (sum_of n f)) x) i 0
  unfolding with_reply
  before_body i h = each_skip (λ k. true) (λ k y. set y (message_body + k) (f k)) (λ y. get_or y i 0) n _ (λ k y l t. get_or-set_other y (message_body + k) i (f k) 0 (omega arith))

  pub reply-length : get_or (with_reply n f x) reply_length 0 ≡ n
  reply-length = before_body reply_length (omega arith) ∙ header_length n (check_code (sum_of n f)) x size

  pub reply-code : get_or (with_reply n f x) reply_code 0 ≡ check_code (sum_of n f)
  reply-code = before_body reply_code (omega arith) ∙ header_code n (check_code (sum_of n f)) x size

  pub reply-byte : (k : ℕ) → k < n → get_or (with_reply n f x) (message_body + k) 0 ≡ f k
  unfolding with_reply with_reply_header
  reply-byte k h =
      each_hit (λ k. true) step (λ y. get_or y (message_body + k) 0) k n start h refl (λ j y a l t. get_or-set_other y (message_body + j) (message_body + k) (f j) 0 (omega arith))
      ∙ get_or-set_same (each (λ k. true) step k start) (message_body + k) (f k) 0
      (omega (arith, each_skip (λ k. true) step length k start (λ j y l t. length-set y (message_body + j) (f j)), length-set x reply_length n, length-set (set x reply_length n) reply_code (check_code (sum_of n f))))
    where
      step : ℕ → Image → Image
      step k y = set y (message_body + k) (f k)

      start : Image
      start = set (set x reply_length n) reply_code (check_code (sum_of n f))
