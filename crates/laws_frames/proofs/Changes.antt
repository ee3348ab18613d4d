-- The range of the image that each change stays in. Assumes nothing.
use Rattle.std.proofs.Common.{None, Some, Option, ℕ}
use mathlib.Core.Path.{◌≡◌, refl, ◌∙◌}
use mathlib.Core.Bool.{Bool, true, false}
use mathlib.Core.Logic.{◌⊎◌, inl, inr}
use Prim.Native.Nat.{ℕ, ◌+◌, ◌*◌, ◌≤◌, ◌<◌}
use native.Mathlib.Omega.{arith}
use lib.ListN.{length, get_or, set, length-set}
use lib.Seq.{get_or-set_other}
use Rattle.bits.specs.Choice.{only_if}
use Rattle.bits.specs.Sets.{has}
use Rattle.bits.specs.Word.{put_word}
use borrow.Author.Tests.{le-leb, lt-ltb}
use Rattle.bits.proofs.Tests.{clash, both_i}
use Rattle.bits.proofs.Loops.{each_skip}
use Rattle.bits.proofs.Words.{length-put-word, word-byte_other}
use Rattle.model.specs.Map.{Image, module_state, module_state_bits, module_flags, module_changed_bit, on, page11, state_at, status_at, pending_at, setting_at, active_set, flag_at, interrupt_bit, received_power, clearing, status_bytes, pending_byte, state_bytes, set_length, flag_bytes, flag_byte_count, lasting_count, lasting_flag}
use Rattle.model.specs.Registers.{with_status, with_pending, with_path_state, with_flags}
use Rattle.model.specs.Work.{with_active, copy_lane}
use Rattle.model.specs.Power.{module_entered_image, module_moved_image, module_image}
use Rattle.model.specs.Hardware.{entered_image, moved_image, moved_path_image, hardware_image}
use Rattle.model.specs.Flags.{raised_image, sampled_image, is_read, shown_again_image, settled_image}
use Rattle.model.specs.Pages.{with_page, page_start, selected_image}
use Rattle.model.specs.Access.{cleared_image}
use Rattle.model.specs.declared.lane.Settings.{Settings}
use Rattle.model.specs.declared.lane.Working.{Working}
use Rattle.model.specs.declared.path.PathState.{PathState}
use Rattle.laws_frames.specs.Frames.{Beside, SameOutside, state_end, status_end, pending_end, SameAdvertised, SameOffPath}
use Rattle.laws_frames.proofs.Outside.{outside_refl, outside_trans, outside_wider, set_outside, put_outside, each_outside}
use Rattle.laws_frames.proofs.Registers.{lane-from, lane-to, setting-from, setting-to, advertised_between}

-- ---- lanes' registers

pub status_outside : (c : ℕ → Bool) (code : ℕ) (x : Image) → SameOutside status_bytes status_end x (with_status c code x)
unfolding with_status
status_outside c code x = each_outside status_bytes status_end c _ 8 x (λ l y b e.
    put_outside status_bytes status_end y (status_at l) code (lane-from status_bytes 4 l b refl) (lane-to status_bytes 4 l b refl))

pub pending_outside : (c : ℕ → Bool) (v : ℕ) (x : Image) → SameOutside pending_byte pending_end x (with_pending c v x)
unfolding with_pending
pending_outside c v x = each_outside pending_byte pending_end c _ 8 x (λ l y b e.
    put_outside pending_byte pending_end y (pending_at l) v (lane-from pending_byte 1 l b refl) (lane-to pending_byte 1 l b refl))

pub state_outside : (g : ℕ) (to : PathState) (x : Image) → SameOutside state_bytes state_end x (with_path_state g to x)
unfolding with_path_state
state_outside g to x = each_outside state_bytes state_end (has g) _ 8 x (λ l y b e.
    put_outside state_bytes state_end y (state_at l) _ (lane-from state_bytes 4 l b refl) (lane-to state_bytes 4 l b refl))

pub flags_outside : (address g : ℕ) (x : Image) → SameOutside (on page11 address) (on page11 address + 1) x (with_flags address g x)
unfolding with_flags
flags_outside address g x = each_outside _ _ (has g) _ 8 x (λ l y b e.
    put_outside _ _ y (flag_at address l) 1 (lane-from (on page11 address) 1 l b refl) (lane-to (on page11 address) 1 l b refl))

pub active_outside : (h : Settings) (l : ℕ) (x : Image) → l < 8 → SameOutside active_set (active_set + set_length) x (with_active h l x)
unfolding with_active
active_outside h l x b = each_outside active_set (active_set + set_length) (λ k. true) _ 8 x (λ k y hk e.
    put_outside active_set (active_set + set_length) y (setting_at active_set k l) _ (setting-from active_set k l hk b) (setting-to active_set k l hk b))

pub copy_outside : (w : Working) (l : ℕ) (x : Image) → l < 8 → SameOutside active_set (active_set + set_length) x (copy_lane w l x)
unfolding copy_lane
copy_outside w l x b = active_outside _ l x b

-- ---- flags and samples

pub settled_outside : (x : Image) → SameOutside 3 4 x (settled_image x)
unfolding settled_image
settled_outside x = put_outside 3 4 x interrupt_bit _ (omega arith) (omega arith)

only_outside : (lo hi : ℕ) (b : Bool) (f : Image → Image) (x : Image) → SameOutside lo hi x (f x) → SameOutside lo hi x (only_if b f x)
unfolding only_if
only_outside lo hi true f x s = s
only_outside lo hi false f x s = outside_refl lo hi x

-- flag bytes 134 to 153 and the received power lie between DPState and ConfigStatus
raised_outside : (test : Bool) (flag l : ℕ) (x : Image) → l < 8 → 134 ≤ flag → flag ≤ 153 → SameOutside flag_bytes status_bytes x (raised_image test flag l x)
unfolding raised_image
raised_outside test flag l x b f t = only_outside flag_bytes status_bytes test _ x
    (put_outside flag_bytes status_bytes x (flag_at flag l) 1 (omega (arith, lane-from (on page11 flag) 1 l b refl)) (omega (arith, lane-to (on page11 flag) 1 l b refl)))

power_outside : (l p : ℕ) (x : Image) → l < 8 → SameOutside flag_bytes status_bytes x (put_word 2 x (received_power + 2 * l) p)
power_outside l p x b = record { size = length-put-word 2 x (received_power + 2 * l) p; byte = λ i o. word-byte_other 2 x (received_power + 2 * l) p i (off i o) }
  where
    off : (i : ℕ) → Beside flag_bytes status_bytes i → (i < received_power + 2 * l) ⊎ ((received_power + 2 * l) + 2 ≤ i)
    off i (inl h) = inl (omega arith)
    off i (inr h) = inr (omega arith)

pub sampled_outside : (l p : ℕ) (x : Image) → l < 8 → SameOutside flag_bytes status_bytes x (sampled_image l p x)
unfolding sampled_image
sampled_outside l p x b =
    outside_trans (power_outside l p x b)
    (outside_trans (raised_outside _ 149 l _ b (omega arith) (omega arith))
    (outside_trans (raised_outside _ 150 l _ b (omega arith) (omega arith))
    (outside_trans (raised_outside _ 151 l _ b (omega arith) (omega arith)) (raised_outside _ 152 l _ b (omega arith) (omega arith)))))

-- ---- host accesses

page_outside : (place : Option ℕ) (page : ℕ) (x : Image) → SameOutside 126 128 x (with_page place page x)
page_outside None page x = outside_trans (outside_wider 126 128 (omega arith) (omega arith) (set_outside x 126 0))
    (outside_wider 126 128 (omega arith) (omega arith) (set_outside (set x 126 0) 127 0))
page_outside (Some start) page x = outside_wider 126 128 (omega arith) (omega arith) (set_outside x 127 page)

pub selected_outside : (page : ℕ) (x : Image) → SameOutside 126 128 x (selected_image page x)
unfolding selected_image
selected_outside page x = page_outside (page_start (get_or x 126 0) page) page x

-- a read changes only bytes that a read clears
pub cleared_byte : (x : Image) (i n j : ℕ) → clearing j ≡ false → get_or (cleared_image x i n) j 0 ≡ get_or x j 0
unfolding cleared_image
cleared_byte x i n j e = each_skip (λ k. clearing (i + k)) _ (λ y. get_or y j 0) n x (λ k y b t.
    get_or-set_other y (i + k) j 0 0 (λ q. clash t (rw q at e)))

pub cleared_length : (x : Image) (i n : ℕ) → length (cleared_image x i n) ≡ length x
unfolding cleared_image
cleared_length x i n = each_skip (λ k. clearing (i + k)) _ length n x (λ k y b t. length-set y (i + k) 0)

-- .. and of them those that it read
pub cleared_unread : (x : Image) (i n j : ℕ) → is_read i n j ≡ false → get_or (cleared_image x i n) j 0 ≡ get_or x j 0
unfolding cleared_image is_read
cleared_unread x i n j e = each_skip (λ k. clearing (i + k)) _ (λ y. get_or y j 0) n x (λ k y b t.
    get_or-set_other y (i + k) j 0 0 (λ q. clash (both_i (le-leb i j (omega arith)) (lt-ltb j (i + n) (omega arith))) e))

-- .. and then shows what is on in flag bytes
pub shown_outside : (w : Working) (i n : ℕ) (x : Image) → SameOutside flag_bytes (flag_bytes + flag_byte_count) x (shown_again_image w i n x)
unfolding shown_again_image
shown_outside w i n x = each_outside flag_bytes (flag_bytes + flag_byte_count) _ _ lasting_count x (λ k y b e.
    outside_wider flag_bytes (flag_bytes + flag_byte_count) (omega arith) (omega arith) (flags_outside (lasting_flag k) _ y))

-- ---- the module event: lower 3, and lower 8

pub module_outside : (line : Bool) (x : Image) → SameOutside module_state (module_flags + 1) x (module_image line x)
unfolding module_image module_moved_image module_entered_image
module_outside line x = only_outside module_state (module_flags + 1) _ _ x
    (outside_trans (put_outside module_state (module_flags + 1) x module_state_bits _ (omega arith) (omega arith))
    (only_outside module_state (module_flags + 1) _ _ _ (put_outside module_state (module_flags + 1) _ module_changed_bit 1 (omega arith) (omega arith))))

-- ---- a hardware event: states, DPStateChanged and pending bits

pub off_advertised : {x y : Image} → SameOffPath x y → SameAdvertised x y
off_advertised s i d =
    let h = advertised_between i d in
    s.byte i (inl (omega (arith, h))) (inl (omega (arith, h))) (inl (omega (arith, h)))

off_trans : {x y z : Image} → SameOffPath x y → SameOffPath y z → SameOffPath x z
off_trans p q = record { size = q.size ∙ p.size; byte = λ i a b c. q.byte i a b c ∙ p.byte i a b c }

off_only : (b : Bool) (f : Image → Image) (x : Image) → SameOffPath x (f x) → SameOffPath x (only_if b f x)
unfolding only_if
off_only true f x s = s
off_only false f x s = record { size = refl; byte = λ i a b c. refl }

off_state : {x y : Image} → SameOutside state_bytes state_end x y → SameOffPath x y
off_state s = record { size = s.size; byte = λ i a b c. s.byte i a }

off_flags : {x y : Image} → SameOutside flag_bytes (flag_bytes + 1) x y → SameOffPath x y
off_flags s = record { size = s.size; byte = λ i a b c. s.byte i b }

off_pending : {x y : Image} → SameOutside pending_byte pending_end x y → SameOffPath x y
off_pending s = record { size = s.size; byte = λ i a b c. s.byte i c }

pub entered_off : (g : ℕ) (from to : PathState) (x : Image) → SameOffPath x (entered_image g from to x)
unfolding entered_image
entered_off g from to x =
    off_trans (off_state (state_outside g to x))
    (off_trans (off_only _ _ _ (off_pending (pending_outside (has g) 0 _))) (off_only _ _ _ (off_flags (flags_outside 134 g _))))

pub hardware_off : (down : Bool) (x : Image) (l : ℕ) → SameOffPath x (hardware_image down x l)
unfolding hardware_image moved_path_image moved_image
hardware_off down x l = off_only _ _ x (entered_off _ _ _ x)
