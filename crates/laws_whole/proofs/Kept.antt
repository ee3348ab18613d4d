-- Every change but the copying leaves what the module advertises and the active settings alone. Assumes nothing.
use mathlib.Core.Path.{◌≡◌, refl, sym, ◌∙◌}
use mathlib.Core.Bool.{Bool, true, false}
use mathlib.Core.Logic.{inl, inr}
use Prim.Native.Nat.{ℕ, ◌+◌, ◌≤◌, ◌<◌}
use native.Mathlib.Omega.{arith}
use lib.ListN.{length, set}
use Rattle.bits.specs.Choice.{only_if}
use Rattle.bits.specs.Sets.{has}
use Rattle.bits.proofs.Loops.{any_ext}
use Rattle.model.specs.Map.{Image, writable, active_set, set_length, page10, pending_byte}
use Rattle.model.specs.Records.{stage_at}
use Rattle.model.specs.Registers.{with_status, with_pending}
use Rattle.model.specs.Work.{pending_after}
use Rattle.model.specs.Hardware.{hardware_image}
use Rattle.model.specs.Power.{module_image}
use Rattle.model.specs.Flags.{is_condition_flag, condition_image, sampled_image, shown_again_image, settled_image}
use Rattle.model.specs.Pages.{selected_image}
use Rattle.model.specs.Commands.{command_image}
use Rattle.model.specs.Access.{runs_command, cleared_image}
use Rattle.model.specs.declared.lane.Trigger.{Trigger}
use Rattle.model.specs.declared.lane.Trigger.TheVariants.{DpInit, Immediate}
use Rattle.model.specs.declared.lane.Working.{Working}
use Rattle.model.specs.State.{state_with}
use Rattle.laws_whole.specs.Whole.{active_bit_of}
use Rattle.laws_frames.proofs.Registers.{advertised_below, settings-same, applications-same}
use Rattle.laws_frames.proofs.Changes.{status_outside, pending_outside, off_advertised, hardware_off}
use Rattle.laws_sound.proofs.Quiet.{Quiet, advertised_kept, lane-kept, set-quiet, selected_quiet, settled_quiet, module_quiet, sampled_quiet, condition-quiet, cleared_quiet, shown_quiet, command_quiet}
use Rattle.laws_frames.specs.Frames.{SameOutside, SameWithin, SameAdvertised, SameOffPath}
use Rattle.laws_whole.proofs.Pairs.{veiled, Waits, Pair, Paired}
use Rattle.laws_frames.specs.Alike.{Alike}

-- from y to z: the length, what the module advertises and the active settings' bytes are as they were
pub record Keeps (y z : Image) : Type 0 where
  pub size : length z ≡ length y
  pub advertised : SameAdvertised y z
  pub active : SameWithin active_set (active_set + set_length) y z

pub keeps_refl : (y : Image) → Keeps y y
keeps_refl y = record { size = refl; advertised = λ i d. refl; active = λ i a b. refl }

pub keeps_trans : {x y z : Image} → Keeps x y → Keeps y z → Keeps x z
keeps_trans K L = record {
  size = L.size ∙ K.size;
  advertised = λ i d. L.advertised i d ∙ K.advertised i d;
  active = λ i a b. L.active i a b ∙ K.active i a b;
}

-- so a group that waits goes on waiting
pub waits_keeps : (y z : Image) (w : Working) → Keeps y z → Waits y w → Waits z w
waits_keeps y z w K W l n p b e q = rw (settings-same active_set y z K.active, applications-same y z K.advertised) (W l n p b e q)

-- and the two images stay a pair
pub changed : (x y u z : Image) (w : Working) → Pair x y w → Keeps x u → Keeps y z → Alike (veiled w) u z → Paired (state_with u w) (state_with z w)
changed x y u z w P K L A = record { working = refl; pair = record { size = K.size ∙ P.size; alike = A; waits = waits_keeps y z w L P.waits } }

-- .. also where the records change in the same way in both runs, and their stages do not
pub changed_records : (x y u z : Image) (w v : Working) → ((l : ℕ) → l < 8 → stage_at v l ≡ stage_at w l) → Pair x y w → Keeps x u → Keeps y z → Alike (veiled w) u z
    → Paired (state_with u v) (state_with z v)
unfolding active_bit_of
changed_records x y u z w v e P K L A = record {
  working = refl;
  pair = record {
    size = K.size ∙ P.size;
    alike = record { size = A.size; bits = λ i b h. A.bits i b (any_ext 8 _ _ (λ l c. rw (e l c)) ∙ h) };
    waits = λ l n p b q d. waits_keeps y z w L P.waits l n p b (sym (e l b) ∙ q) d;
  };
}

-- ---- a change that stays in a range: between the two, or above

module _ {lo hi : ℕ} {y z : Image} (s : SameOutside lo hi y z) where
  keeps_mid : page10 ≤ lo → hi ≤ active_set → Keeps y z
  keeps_mid h k = record { size = s.size; advertised = advertised_below h s; active = λ i a b. s.byte i (inr (omega arith)) }

  keeps_high : pending_byte ≤ lo → Keeps y z
  keeps_high h = record { size = s.size; advertised = advertised_below (omega arith) s; active = λ i a b. s.byte i (inl (omega arith)) }

pub keeps_status : (c : ℕ → Bool) (code : ℕ) (y : Image) → Keeps y (with_status c code y)
keeps_status c code y = keeps_mid (status_outside c code y) (omega arith) (omega arith)

keeps_pending : (c : ℕ → Bool) (v : ℕ) (y : Image) → Keeps y (with_pending c v y)
keeps_pending c v y = keeps_high (pending_outside c v y) (omega arith)

pub keeps_after : (r : Bool) (t : Trigger) (g : ℕ) (y : Image) → Keeps y (pending_after r t g y)
unfolding pending_after
keeps_after true t g y = keeps_pending (has g) 0 y
keeps_after false DpInit g y = keeps_pending (has g) 1 y
keeps_after false Immediate g y = keeps_refl y

pub keeps_hardware : (down : Bool) (l : ℕ) (y : Image) → Keeps y (hardware_image down y l)
keeps_hardware down l y = let s : SameOffPath y (hardware_image down y l) = hardware_off down y l in record {
  size = s.size;
  advertised = off_advertised s;
  active = λ i a b. s.byte i (inr (omega arith)) (inr (omega arith)) (inl (omega arith));
}

-- ---- a change that is made or not

keeps_only : (t : Bool) (f : Image → Image) (y : Image) → Keeps y (f y) → Keeps y (only_if t f y)
unfolding only_if
keeps_only true f y K = K
keeps_only false f y K = keeps_refl y

-- ---- a change of bytes that soundness does not look at

keeps_quiet : {y z : Image} → Quiet y z → Keeps y z
keeps_quiet q = record {
  size = q.size;
  advertised = λ i d. q.byte i (advertised_kept i d);
  active = λ i a b. q.byte i (lane-kept i (omega arith) (omega arith));
}

pub keeps_settled : (y : Image) → Keeps y (settled_image y)
keeps_settled y = keeps_quiet (settled_quiet y)

pub keeps_page : (page : ℕ) (y : Image) → Keeps y (selected_image page y)
keeps_page page y = keeps_quiet (selected_quiet page y)

pub keeps_set : (y : Image) (j v : ℕ) → writable j ≡ true → Keeps y (set y j v)
keeps_set y j v e = keeps_quiet (set-quiet y j v e)

pub keeps_read : (w : Working) (y : Image) (i n : ℕ) → Keeps y (shown_again_image w i n (cleared_image y i n))
keeps_read w y i n = keeps_trans (keeps_quiet (cleared_quiet y i n)) (keeps_quiet (shown_quiet w i n (cleared_image y i n)))

pub keeps_condition : (flag mask : ℕ) (y : Image) → is_condition_flag flag ≡ true → Keeps y (condition_image flag mask y)
keeps_condition flag mask y e = keeps_quiet (condition-quiet flag mask y e)

pub keeps_sample : (l p : ℕ) (y : Image) → l < 8 → Keeps y (sampled_image l p y)
keeps_sample l p y b = keeps_quiet (sampled_quiet l p y b)

pub keeps_module : (line : Bool) (y : Image) → Keeps y (module_image line y)
keeps_module line y = keeps_quiet (module_quiet line y)

pub keeps_ended : (address n : ℕ) (y : Image) → Keeps y (only_if (runs_command address n y) command_image y)
keeps_ended address n y = keeps_only (runs_command address n y) command_image y (keeps_quiet (command_quiet y))
