-- Two byte lists that are alike but for some bits are so after a change of both, whatever the bits are. Assumes nothing.
use Rattle.std.proofs.Common.{None, Some, Option, ℕ}
use mathlib.Core.Path.{◌≡◌, refl, sym, ◌∙◌}
use mathlib.Core.Bool.{Bool, true, false}
use mathlib.Core.List.{List}
use Prim.Native.Nat.{ℕ, ◌<◌, ◌+◌, ◌/◌, ◌%◌}
use native.Mathlib.Decide.{ℕ_discrete, dec_lt}
use native.Mathlib.Omega.{arith}
use lib.ListN.{length, get_or, set, length-set}
use lib.Seq.{set_out, get_or-set_same, get_or-set_other}
use Rattle.bits.specs.Choice.{only_if}
use Rattle.bits.specs.Place.{put, digit}
use Rattle.bits.specs.Loop.{each}
use Rattle.bits.specs.declared.Place.{Place}
use Rattle.bits.proofs.Number.{number_ext}
use Rattle.bits.proofs.Places.{length-put, put-same-digit}
use Rattle.bits.proofs.Loops.{each_two, each_ext}
use Rattle.model.specs.Map.{Image, image_length, page9_f, firmware_major, firmware_minor, module_state_bits, module_changed_bit, state_at, status_at, pending_at, flag_at, clearing, lasting_count, lasting_flag, command_complete_bit, command_status, reply_length, reply_code, message_body}
use Rattle.bits.specs.Sets.{has}
use Rattle.bits.specs.Word.{put_word}
use Rattle.model.specs.Records.{on_lanes}
use Rattle.model.specs.Registers.{with_status, with_pending, with_path_state, with_flags}
use Rattle.model.specs.PathStates.{code_of}
use Rattle.model.specs.Work.{pending_after}
use Rattle.model.specs.Power.{module_code_of, module_entered_image}
use Rattle.model.specs.Hardware.{entered_image}
use Rattle.model.specs.Flags.{raised_image, shown_again_image, condition_image}
use Rattle.model.specs.Pages.{with_page}
use Rattle.model.specs.Commands.{length_of, reply_of, status_of, replied_image, command_image, status_code, with_reply_header, with_reply, completed_image}
use Rattle.model.specs.Access.{cleared_image}
use Rattle.model.specs.declared.command.CommandStatus.{CommandStatus}
use Rattle.model.specs.declared.command.CommandStatus.TheVariants.{Success, UnknownNumber, WrongCode}
use Rattle.model.specs.declared.lane.Trigger.{Trigger}
use Rattle.model.specs.declared.lane.Trigger.TheVariants.{DpInit, Immediate}
use Rattle.model.specs.declared.lane.Working.{Working}
use Rattle.model.specs.declared.path.PathState.{PathState}
use Rattle.model.specs.declared.power.ModuleState.{ModuleState}
use Rattle.laws_frames.specs.Frames.{SameWithin}
use Rattle.laws_frames.proofs.Commands.{sum_ext, status-of-same, reply-same}
use Rattle.laws_frames.specs.Alike.{Alike}

-- ---- changes that keep any exception
module _ (except : ℕ → ℕ → Bool) where
  pub alike_refl : (x : List ℕ) → Alike except x x
  alike_refl x = record { size = refl; bits = λ i b h. refl }

  pub alike-put : (x y : List ℕ) (p : Place) (v : ℕ) → Alike except x y → Alike except (put x p v) (put y p v)
  alike-put x y p v A = record {
    size = length-put x p v ∙ A.size ∙ sym (length-put y p v);
    bits = λ i b h. put-same-digit x y p v i b A.size (A.bits i b h);
  }

  pub alike_set : (x y : List ℕ) (j v : ℕ) → Alike except x y → Alike except (set x j v) (set y j v)
  unfolding digit
  alike_set x y j v A = record {
    size = length-set x j v ∙ A.size ∙ sym (length-set y j v);
    bits = λ i b h. elim (dec_lt j (length x)) [
      | no l ↦ rw (set_out x j v (omega arith), set_out y j v (omega (arith, A.size))) (A.bits i b h)
      | yes l ↦ elim (ℕ_discrete i j) [
        | yes e ↦ rw (e, get_or-set_same x j v 0 l, get_or-set_same y j v 0 (omega (arith, A.size)))
        | no n ↦ rw (get_or-set_other x j i v 0 n, get_or-set_other y j i v 0 n) (A.bits i b h)
      ]
    ];
  }

  -- the same puts at the lanes that two equal tests pick
  pub alike_puts : (c d : ℕ → Bool) (p : ℕ → Place) (v n : ℕ) (x y : List ℕ) → ((k : ℕ) → k < n → c k ≡ d k) → Alike except x y
      → Alike except (each c (λ k z. put z (p k) v) n x) (each d (λ k z. put z (p k) v) n y)
  alike_puts c d p v n x y e A =
      rw (← (each_ext c (λ k z. put z (p k) v) d (λ k z. put z (p k) v) n y e (λ k z b t. refl)))
      (each_two (Alike except) c (λ k z. put z (p k) v) (λ k z. put z (p k) v) n (λ k u z b t. alike-put u z (p k) v) x y A)

  -- a byte with no excepted bit
  pub alike-byte : (x y : List ℕ) (i : ℕ) → Alike except x y → ((b : ℕ) → except i b ≡ false) → get_or x i 0 ≡ get_or y i 0
  unfolding digit
  alike-byte x y i A h = number_ext (get_or x i 0) (get_or y i 0) (λ b. A.bits i b (h b))

-- fewer bits agreed on
pub alike_weaken : (c d : ℕ → ℕ → Bool) (x y : List ℕ) → ((i b : ℕ) → d i b ≡ false → c i b ≡ false) → Alike c x y → Alike d x y
alike_weaken c d x y h A = record { size = A.size; bits = λ i b e. A.bits i b (h i b e) }

-- ---- whatever may differ
module _ (except : ℕ → ℕ → Bool) where
  pub alike_only : (t : Bool) (f : Image → Image) (x y : Image) → (Alike except x y → Alike except (f x) (f y)) → Alike except x y → Alike except (only_if t f x) (only_if t f y)
  unfolding only_if
  alike_only true f x y h A = h A
  alike_only false f x y h A = A

  pub alike-status : (c d : ℕ → Bool) (code : ℕ) (x y : Image) → ((l : ℕ) → l < 8 → c l ≡ d l) → Alike except x y → Alike except (with_status c code x) (with_status d code y)
  unfolding with_status
  alike-status c d code x y e A = alike_puts except c d status_at code 8 x y e A

  pub alike-pending : (c : ℕ → Bool) (v : ℕ) (x y : Image) → Alike except x y → Alike except (with_pending c v x) (with_pending c v y)
  unfolding with_pending
  alike-pending c v x y A = alike_puts except c c pending_at v 8 x y (λ l b. refl) A

  pub alike-after : (r : Bool) (t : Trigger) (g : ℕ) (x y : Image) → Alike except x y → Alike except (pending_after r t g x) (pending_after r t g y)
  unfolding pending_after
  alike-after true t g x y A = alike-pending _ 0 x y A
  alike-after false DpInit g x y A = alike-pending (has g) 1 x y A
  alike-after false Immediate g x y A = A

  pub alike-flags : (address g : ℕ) (x y : Image) → Alike except x y → Alike except (with_flags address g x) (with_flags address g y)
  unfolding with_flags
  alike-flags address g x y A = alike_puts except (has g) (has g) (flag_at address) 1 8 x y (λ l b. refl) A

  pub alike-condition : (flag mask : ℕ) (x y : Image) → Alike except x y → Alike except (condition_image flag mask x) (condition_image flag mask y)
  unfolding condition_image
  alike-condition flag mask x y A = alike-flags flag mask x y A

  pub alike-state : (g : ℕ) (to : PathState) (x y : Image) → Alike except x y → Alike except (with_path_state g to x) (with_path_state g to y)
  unfolding with_path_state
  alike-state g to x y A = alike_puts except (has g) (has g) state_at (code_of to) 8 x y (λ l b. refl) A

  pub alike_entered : (g : ℕ) (from to : PathState) (x y : Image) → Alike except x y → Alike except (entered_image g from to x) (entered_image g from to y)
  unfolding entered_image
  alike_entered g from to x y A = alike_only _ _ _ _ (alike-flags 134 g _ _) (alike_only _ _ _ _ (alike-pending (has g) 0 _ _) (alike-state g to x y A))

  pub alike_raised : (test : Bool) (flag l : ℕ) (x y : Image) → Alike except x y → Alike except (raised_image test flag l x) (raised_image test flag l y)
  unfolding raised_image
  alike_raised test flag l x y A = alike_only test (λ z. put z (flag_at flag l) 1) x y (alike-put except x y (flag_at flag l) 1) A

  pub alike-word : (at v : ℕ) (x y : Image) → Alike except x y → Alike except (put_word 2 x at v) (put_word 2 y at v)
  unfolding put_word
  alike-word at v x y A = alike_set except _ _ (at + 1) (v % 256) (alike_set except x y (at + 0) (v / 256 % 256) A)

  pub alike_page : (place : Option ℕ) (page : ℕ) (x y : Image) → Alike except x y → Alike except (with_page place page x) (with_page place page y)
  alike_page None page x y A = alike_set except _ _ 127 0 (alike_set except x y 126 0 A)
  alike_page (Some start) page x y A = alike_set except x y 127 page A

  pub alike_cleared : (i n : ℕ) (x y : Image) → Alike except x y → Alike except (cleared_image x i n) (cleared_image y i n)
  unfolding cleared_image
  alike_cleared i n x y A = each_two (Alike except) (λ k. clearing (i + k)) (λ k z. set z (i + k) 0) (λ k z. set z (i + k) 0) n
      (λ k u z b t. alike_set except u z (i + k) 0) x y A

  pub alike_shown : (w : Working) (i n : ℕ) (x y : Image) → Alike except x y → Alike except (shown_again_image w i n x) (shown_again_image w i n y)
  unfolding shown_again_image
  alike_shown w i n x y A = each_two (Alike except) _ _ _ lasting_count (λ k u z b t. alike-flags (lasting_flag k) (on_lanes w k) u z) x y A

  pub alike-reply_header : (n code : ℕ) (x y : Image) → Alike except x y → Alike except (with_reply_header n code x) (with_reply_header n code y)
  unfolding with_reply_header
  alike-reply_header n code x y A = alike_set except _ _ reply_code code (alike_set except x y reply_length n A)

  pub alike-reply : (n : ℕ) (f g : ℕ → ℕ) (x y : Image) → ((k : ℕ) → g k ≡ f k) → Alike except x y → Alike except (with_reply n f x) (with_reply n g y)
  unfolding with_reply
  alike-reply n f g x y same A = rw (sum_ext n g f (λ k l. same k))
      (each_two (Alike except) (λ k. true) (λ k z. set z (message_body + k) (f k)) (λ k z. set z (message_body + k) (g k)) n
      (λ k u z l t B. rw (same k) (alike_set except u z (message_body + k) (f k) B)) _ _ (alike-reply_header n _ x y A))

  pub alike_completed : (status : CommandStatus) (x y : Image) → Alike except x y → Alike except (completed_image status x) (completed_image status y)
  unfolding completed_image
  alike_completed status x y A = alike-put except _ _ command_complete_bit 1 (alike_set except x y command_status (status_code status) A)

  pub alike_module_entered : (to : ModuleState) (p : Bool) (x y : Image) → Alike except x y → Alike except (module_entered_image to p x) (module_entered_image to p y)
  unfolding module_entered_image
  alike_module_entered to p x y A = alike_only _ _ _ _ (alike-put except _ _ module_changed_bit 1) (alike-put except x y module_state_bits (module_code_of to) A)

  -- a command looks at page 9Fh and at lower 39 and 40
  module _ (x y : Image) (page : SameWithin page9_f image_length x y) (major : get_or y firmware_major 0 ≡ get_or x firmware_major 0)
      (minor : get_or y firmware_minor 0 ≡ get_or x firmware_minor 0) (A : Alike except x y) where
    alike_replied : (status : CommandStatus) → Alike except (replied_image status x) (replied_image status y)
    unfolding replied_image
    alike_replied (Success m) = alike-reply (length_of m) (reply_of x m) (reply_of y m) x y (λ k. reply-same x y m k major minor) A
    alike_replied UnknownNumber = alike-reply_header 0 0 x y A
    alike_replied WrongCode = alike-reply_header 0 0 x y A

    pub alike_command : Alike except (command_image x) (command_image y)
    unfolding command_image
    alike_command = rw (status-of-same x y page) (alike_completed (status_of x) _ _ (alike_replied (status_of x)))
