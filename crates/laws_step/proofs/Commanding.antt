-- A command message: what it changes, and what each place then holds. Assumes nothing.
use mathlib.Core.Path.{◌≡◌, refl, sym, ◌∙◌}
use mathlib.Core.Bool.{Bool, true, false}
use mathlib.Core.List.{List}
use Prim.Native.Nat.{ℕ, ◌+◌, ◌≤◌, ◌<◌}
use native.Mathlib.Omega.{arith}
use lib.ListN.{length, get_or, set, length-set}
use lib.Seq.{get_or-set_same, get_or-set_other}
use borrow.Author.Tests.{ne_eqb, leb-true, ltb-true, le-leb, lt-ltb}
use Rattle.bits.specs.Choice.{only_if, both, either}
use Rattle.bits.specs.Place.{get, put, covers}
use Rattle.bits.proofs.Tests.{both_l, both_r, both_i, either_i_l, either_i_r}
use Rattle.bits.proofs.Places.{get-put-fits, covers_in}
use Rattle.model.specs.Map.{Image, image_length, module_controls, run_address, command_status, command_complete_bit, module_flags, command_number, reply_length, reply_code, message_body}
use Rattle.model.specs.Flags.{settled_image}
use Rattle.model.specs.Access.{writes, runs_command, resets}
use Rattle.model.specs.Commands.{length_of, reply_of, status_of, status_code, with_reply_header, with_reply, replied_image, completed_image, command_image}
use Rattle.model.specs.declared.command.Command.{Command}
use Rattle.model.specs.declared.command.CommandStatus.{CommandStatus}
use Rattle.model.specs.declared.command.CommandStatus.TheVariants.{Success, UnknownNumber, WrongCode}
use Rattle.laws_frames.proofs.Commands.{reply-fits, header_length, header_code, reply-length, reply-code, reply-byte}
use Rattle.laws_step.specs.Changes.{ChangesOnly, or_in, in_bytes}
use Rattle.laws_step.specs.Told.{amid, length_after, code_after, command_set, CommandTold, ended_image, end_set}
use Rattle.laws_step.proofs.Frames.{neither, unless, keeps_refl, keeps_put, keeps_set, keeps_then, keeps_each, keeps_get, keeps_byte}
use Rattle.laws_step.proofs.Settling.{settled_changes, settled_byte, past_interrupt}

-- ---- what it changes

module _ (status : CommandStatus) where
  -- 134, 135 and the reply
  reply_in : (i b : ℕ) → reply_length ≤ i → i < message_body + length_after status → command_set status i b ≡ true
  unfolding command_set or_in in_bytes amid
  reply_in i b lo hi = either_i_l _ _ (either_i_r _ _ (both_i (le-leb reply_length i lo) (lt-ltb i (message_body + length_after status) hi)))

  -- lower 37
  status_in : (b : ℕ) → command_set status command_status b ≡ true
  unfolding command_set or_in in_bytes either
  status_in b = refl

  complete_in : (i b : ℕ) → covers command_complete_bit i b ≡ true → command_set status i b ≡ true
  unfolding command_set or_in
  complete_in i b c = either_i_r _ _ c

  -- no other byte
  pub command_out : (i b : ℕ) → (i ≡ command_status → ⊥) → (i ≡ module_flags → ⊥) → (reply_length ≤ i → i < message_body + length_after status → ⊥) → command_set status i b ≡ false
  unfolding command_set or_in in_bytes amid
  command_out i b s f r = neither
      (neither (ne_eqb i command_status s) (unless (λ t. r (leb-true reply_length i (both_l _ _ t)) (ltb-true i (message_body + length_after status) (both_r _ _ t)))))
      (unless (λ c. f (sym (covers_in command_complete_bit i b c).here)))

header_changes : (status : CommandStatus) (n code : ℕ) (x : Image) → ChangesOnly (command_set status) x (with_reply_header n code x)
unfolding with_reply_header
header_changes status n code x = keeps_then
    (keeps_set _ x reply_length n (λ b. reply_in status reply_length b (omega arith) (omega arith)))
    (keeps_set _ _ reply_code code (λ b. reply_in status reply_code b (omega arith) (omega arith)))

replied_changes : (status : CommandStatus) (x : Image) → ChangesOnly (command_set status) x (replied_image status x)
unfolding replied_image with_reply length_after
replied_changes (Success c) x = keeps_then (header_changes (Success c) _ _ x)
    (keeps_each _ _ _ (length_of c) _ (λ k y l t. keeps_set _ y (message_body + k) _ (λ b. reply_in (Success c) (message_body + k) b (omega arith) (omega arith))))
replied_changes UnknownNumber x = header_changes UnknownNumber _ _ x
replied_changes WrongCode x = header_changes WrongCode _ _ x

completed_changes : (status : CommandStatus) (x : Image) → ChangesOnly (command_set status) x (completed_image status x)
unfolding completed_image
completed_changes status x = keeps_then (keeps_set _ x command_status _ (status_in status)) (keeps_put _ _ command_complete_bit _ (complete_in status))

pub command_changes : (x : Image) → ChangesOnly (command_set (status_of x)) x (command_image x)
unfolding command_image
command_changes x = keeps_then (replied_changes (status_of x) x) (completed_changes (status_of x) _)

-- ---- what each place holds

module _ (x : Image) (size : length x ≡ image_length) where
  replied_size : (status : CommandStatus) → length (replied_image status x) ≡ image_length
  replied_size status = (replied_changes status x).size ∙ size

  -- the status and the flag
  module _ (status : CommandStatus) where
    completed_status : get_or (completed_image status (replied_image status x)) command_status 0 ≡ status_code status
    unfolding completed_image put
    completed_status = get_or-set_other (set (replied_image status x) command_status (status_code status)) module_flags command_status _ 0 (omega arith)
        ∙ get_or-set_same (replied_image status x) command_status (status_code status) 0 (omega (arith, replied_size status))

    completed_bit : get (completed_image status (replied_image status x)) command_complete_bit ≡ 1
    unfolding completed_image
    completed_bit = get-put-fits (set (replied_image status x) command_status (status_code status)) command_complete_bit 1
        (omega (arith, replied_size status, length-set (replied_image status x) command_status (status_code status))) (omega arith)

    -- page 9Fh is as the reply left it
    completed_byte : (i : ℕ) → command_number ≤ i → get_or (completed_image status (replied_image status x)) i 0 ≡ get_or (replied_image status x) i 0
    unfolding completed_image put
    completed_byte i h = get_or-set_other (set (replied_image status x) command_status (status_code status)) module_flags i _ 0 (omega arith)
        ∙ get_or-set_other (replied_image status x) command_status i (status_code status) 0 (omega arith)

    -- 128-133, and what lies past the reply
    replied_stays : (i : ℕ) → command_number ≤ i → (reply_length ≤ i → i < message_body + length_after status → ⊥) → get_or (replied_image status x) i 0 ≡ get_or x i 0
    replied_stays i h o = keeps_byte (replied_changes status x) i (λ b. command_out status i b (λ e. omega arith) (λ e. omega arith) o)

  replied_length : (status : CommandStatus) → get_or (replied_image status x) reply_length 0 ≡ length_after status
  unfolding replied_image length_after
  replied_length (Success c) = reply-length (length_of c) (reply_of x c) x size (reply-fits c)
  replied_length UnknownNumber = header_length 0 0 x size
  replied_length WrongCode = header_length 0 0 x size

  replied_code : (status : CommandStatus) → get_or (replied_image status x) reply_code 0 ≡ code_after x status
  unfolding replied_image code_after
  replied_code (Success c) = reply-code (length_of c) (reply_of x c) x size (reply-fits c)
  replied_code UnknownNumber = header_code 0 0 x size
  replied_code WrongCode = header_code 0 0 x size

  replied_byte : (c : Command) (k : ℕ) → k < length_of c → get_or (replied_image (Success c) x) (message_body + k) 0 ≡ reply_of x c k
  unfolding replied_image
  replied_byte c k h = reply-byte (length_of c) (reply_of x c) x size (reply-fits c) k h

  status-told : (status : CommandStatus) → CommandTold status x (completed_image status (replied_image status x))
  status-told status = record {
    code = completed_status status;
    complete = completed_bit status;
    length_of_reply = completed_byte status reply_length (omega arith) ∙ replied_length status;
    code_of_reply = completed_byte status reply_code (omega arith) ∙ replied_code status;
    reply = λ c e k h. completed_byte status (message_body + k) (omega arith) ∙ rw e (replied_byte c k h);
    message = λ i lo hi. completed_byte status i lo ∙ replied_stays status i lo (λ a b. omega arith);
    rest = λ k lo hi. completed_byte status (message_body + k) (omega arith) ∙ replied_stays status (message_body + k) (omega arith) (λ a b. omega arith);
  }

  pub command_told : CommandTold (status_of x) x (command_image x)
  unfolding command_image
  command_told = status-told (status_of x)

-- settling lower 3.0 leaves it so
pub told_settled : (status : CommandStatus) (x y : Image) → CommandTold status x y → CommandTold status x (settled_image y)
told_settled status x y t = record {
  code = settled_byte y command_status (omega arith) ∙ t.code;
  complete = keeps_get (settled_changes y) command_complete_bit (λ i b c. past_interrupt i b (omega (arith, (covers_in command_complete_bit i b c).here))) ∙ t.complete;
  length_of_reply = settled_byte y reply_length (omega arith) ∙ t.length_of_reply;
  code_of_reply = settled_byte y reply_code (omega arith) ∙ t.code_of_reply;
  reply = λ c e k h. settled_byte y (message_body + k) (omega arith) ∙ t.reply c e k h;
  message = λ i lo hi. settled_byte y i (omega arith) ∙ t.message i lo hi;
  rest = λ k lo hi. settled_byte y (message_body + k) (omega arith) ∙ t.rest k lo hi;
}

-- ---- the end of a write

pub ended_changes : (address n : ℕ) (x : Image) → ChangesOnly (end_set address n x) x (ended_image address n x)
unfolding end_set ended_image both only_if
ended_changes address n x = by (runs_command address n x)
  where
    by : (t : Bool) → ChangesOnly (λ i b. both t (command_set (status_of x) i b)) x (only_if t command_image x)
    by true = command_changes x
    by false = keeps_refl _ x

-- a write writes the addresses from its first to before its end
pub writes_at : (address n a : ℕ) → address ≤ a → a < address + n → writes address n a ≡ true
unfolding writes
writes_at address n a lo hi = both_i (le-leb address a lo) (lt-ltb a (address + n) hi)

pub written_from : (address n a : ℕ) → writes address n a ≡ true → address ≤ a
unfolding writes
written_from address n a t = leb-true address a (both_l _ _ t)

pub written_past : (address n a : ℕ) → writes address n a ≡ true → a < address + n
unfolding writes
written_past address n a t = ltb-true a (address + n) (both_r _ _ t)

-- a write of lower memory runs nothing
pub lower_runs-none : (address n : ℕ) (x : Image) → address + n ≤ run_address → runs_command address n x ≡ false
unfolding runs_command
lower_runs-none address n x h = unless (λ t. omega (arith, written_past address n run_address (both_l _ _ t)))

-- a write past lower 26 resets nothing
pub later_resets-none : (address : ℕ) (bytes : List ℕ) (n : ℕ) → module_controls < address → resets address bytes n ≡ false
unfolding resets
later_resets-none address bytes n h = unless (λ t. omega (arith, written_from address n module_controls (both_l _ _ t)))
