-- What is read back after a change of the register itself. Assumes nothing.
use mathlib.Core.Path.{◌≡◌, refl, sym, ◌∙◌}
use mathlib.Core.Bool.{Bool, true, false}
use mathlib.Core.Logic.{◌≢◌}
use Prim.Native.Nat.{ℕ, ◌+◌, ◌%◌, ◌^◌, ◌≤◌, ◌<◌}
use native.Mathlib.Nat.{mod-eq_of_lt}
use native.Mathlib.Decide.{dec_lt}
use native.Mathlib.Omega.{arith}
use lib.Dec.{eqb}
use borrow.Author.Tests.{eqb-true, eqb-false}
use lib.ListN.{length, get_or}
use Rattle.bits.specs.Choice.{pick, both, either}
use Rattle.bits.specs.Place.{get, put, apart, digit, covers}
use Rattle.bits.specs.Lane.{lane_field, all_apart}
use Rattle.bits.specs.Sets.{has}
use Rattle.bits.specs.Loop.{each, all_below}
use Rattle.bits.proofs.Tests.{split, pick_true, pick-false, only_true, only_false}
use Rattle.bits.proofs.Places.{get-lt, length-put, byte_other, get-put-fits, get-apart, covers_in, digit-put-out}
use Rattle.bits.proofs.Number.{field_past}
use Rattle.bits.proofs.Masks.{set_ext, has-none}
use Rattle.bits.proofs.Sets.{bit-has}
use Rattle.bits.proofs.Lanes.{lane-width, lanes-apart, table_apart, lane-fits}
use Rattle.bits.proofs.Loops.{each_ind, each_skip, get_puts, get_puts_apart}
use Rattle.model.specs.Map.{Image, on, page11, state_at, status_at, pending_at, flag_at, setting_at, setting_offsets, setting_widths, active_set, image_length, status_bytes, pending_byte, state_bytes}
use Rattle.model.specs.PathStates.{code_of}
use Rattle.model.specs.Records.{no_settings}
use Rattle.model.specs.View.{settings_at, setting_values, is_used, explicit}
use Rattle.model.specs.Registers.{with_status, with_pending, with_path_state, with_flags}
use Rattle.model.specs.Flags.{raised_image}
use Rattle.model.specs.Work.{with_active, by_module, written_settings}
use Rattle.model.specs.declared.lane.Settings.{Settings}
use Rattle.model.specs.declared.path.PathState.{PathState}
use Rattle.laws_frames.specs.Frames.{FitsNibble, Fits, OtherLane}
use Rattle.laws_frames.proofs.Outside.{get-same}
use Rattle.laws_frames.proofs.Registers.{lane-from, lane-to, by_setting, setting-to, settings_path, settings_at_same}

-- ---- a field that every lane has

lanes_back : (base w : ℕ) (c : ℕ → Bool) (v : ℕ) (x : Image) (l : ℕ) → base + w ≤ length x → 8 % w ≡ 0 → l < 8
    → get (each c (λ k y. put y (lane_field base w k) v) 8 x) (lane_field base w l) ≡ pick (c l) (v % 2 ^ w) (get x (lane_field base w l))
lanes_back base w c v x l n e b =
    get_puts c (lane_field base w) (λ k. v) 8 l x b (lane-fits base w l (length x) n b e).0 (λ k h d. lanes-apart base w k l d)
    ∙ rw (lane-width base w l)

module _ (base w : ℕ) (c : ℕ → Bool) (v : ℕ) (x : Image) (l : ℕ) (n : base + w ≤ length x) (e : 8 % w ≡ 0) (b : l < 8) where
  lanes_in : v < 2 ^ w → c l ≡ true → get (each c (λ k y. put y (lane_field base w k) v) 8 x) (lane_field base w l) ≡ v
  lanes_in h t = lanes_back base w c v x l n e b ∙ pick_true _ _ t ∙ mod-eq_of_lt h

  lanes-out : c l ≡ false → get (each c (λ k y. put y (lane_field base w k) v) 8 x) (lane_field base w l) ≡ get x (lane_field base w l)
  lanes-out t = lanes_back base w c v x l n e b ∙ pick-false _ _ t

module _ (x : Image) (l : ℕ) (n : length x ≡ image_length) (b : l < 8) where
  pub status_in : (c : ℕ → Bool) (code : ℕ) → FitsNibble code → c l ≡ true → get (with_status c code x) (status_at l) ≡ code
  unfolding with_status
  status_in c code h t = lanes_in status_bytes 4 c code x l (omega arith) refl b h t

  pub status-out : (c : ℕ → Bool) (code : ℕ) → c l ≡ false → get (with_status c code x) (status_at l) ≡ get x (status_at l)
  unfolding with_status
  status-out c code t = lanes-out status_bytes 4 c code x l (omega arith) refl b t

  pub pending_in : (c : ℕ → Bool) (v : ℕ) → v < 2 → c l ≡ true → get (with_pending c v x) (pending_at l) ≡ v
  unfolding with_pending
  pending_in c v h t = lanes_in pending_byte 1 c v x l (omega arith) refl b h t

  pub pending-out : (c : ℕ → Bool) (v : ℕ) → c l ≡ false → get (with_pending c v x) (pending_at l) ≡ get x (pending_at l)
  unfolding with_pending
  pending-out c v t = lanes-out pending_byte 1 c v x l (omega arith) refl b t

  pub state_in_lem : (g : ℕ) (to : PathState) → FitsNibble (code_of to) → has g l ≡ true → get (with_path_state g to x) (state_at l) ≡ code_of to
  unfolding with_path_state
  state_in_lem g to h t = lanes_in state_bytes 4 (has g) (code_of to) x l (omega arith) refl b h t

  pub state-out : (g : ℕ) (to : PathState) → has g l ≡ false → get (with_path_state g to x) (state_at l) ≡ get x (state_at l)
  unfolding with_path_state
  state-out g to t = lanes-out state_bytes 4 (has g) (code_of to) x l (omega arith) refl b t

-- ---- flags

-- a lane's bit of a byte that is 0
off_zero : (x : Image) (at l : ℕ) → l < 8 → get_or x at 0 ≡ 0 → get x (lane_field at 1 l) ≡ 0
unfolding get
off_zero x at l b e =
    let q : (lane_field at 1 l).byte ≡ at = omega (arith, lane-from at 1 l b refl, lane-to at 1 l b refl) in
    rw (q, e) (field_past 0 0 _ _ (omega arith) (omega arith))

-- past its eight bits a byte stays as it was
beyond : (x : Image) (address g l : ℕ) → 8 ≤ l → get_or x (on page11 address) 0 ≡ 0 → has (get_or (with_flags address g x) (on page11 address) 0) l ≡ false
unfolding with_flags has digit
beyond x address g l b e =
    let kept : digit (with_flags address g x) (on page11 address) l ≡ digit x (on page11 address) l =
    each_skip (has g) _ (λ y. digit y (on page11 address) l) 8 x (λ k y h t. digit-put-out y (flag_at address k) 1 (on page11 address) l (uncovered k h)) in
    rw (kept, e) (rw (field_past 0 0 l 1 (omega arith) (omega arith)))
  where
    uncovered : (k : ℕ) → k < 8 → covers (flag_at address k) (on page11 address) l ≡ false
    uncovered k h = split (covers (flag_at address k) (on page11 address) l)
        (λ c. absurd (omega (arith, (covers_in (flag_at address k) (on page11 address) l c).to, (lane-fits (on page11 address) 1 k (on page11 address + 1) (omega arith) h refl).1)))
        (λ c. c)

module _ (x : Image) (address g l : ℕ) (n : on page11 address < length x) (b : l < 8) where
  pub flag_in : has g l ≡ true → get (with_flags address g x) (flag_at address l) ≡ 1
  unfolding with_flags
  flag_in t = lanes_in (on page11 address) 1 (has g) 1 x l (omega arith) refl b (omega arith) t

  pub flag-out : has g l ≡ false → get (with_flags address g x) (flag_at address l) ≡ get x (flag_at address l)
  unfolding with_flags
  flag-out t = lanes-out (on page11 address) 1 (has g) 1 x l (omega arith) refl b t

-- a byte that was 0 holds the set
pub flags_alone : (x : Image) (address g : ℕ) → on page11 address < length x → g < 2 ^ 8 → get_or x (on page11 address) 0 ≡ 0
    → get_or (with_flags address g x) (on page11 address) 0 ≡ g
flags_alone x address g n h e = set_ext _ g (λ l. elim (dec_lt l 8) [ yes b ↦ lanes l b | no b ↦ past l (omega arith) ])
  where
    was : (l : ℕ) → l < 8 → get x (flag_at address l) ≡ 0
    was l b = off_zero x (on page11 address) l b e

    lanes : (l : ℕ) → l < 8 → has (get_or (with_flags address g x) (on page11 address) 0) l ≡ has g l
    lanes l b = sym (bit-has (with_flags address g x) (on page11 address) l b) ∙ split (has g l)
        (λ t. rw (flag_in x address g l n b t, t))
        (λ t. rw (flag-out x address g l n b t, was l b, t))

    past : (l : ℕ) → 8 ≤ l → has (get_or (with_flags address g x) (on page11 address) 0) l ≡ has g l
    past l b = beyond x address g l b e ∙ sym (has-none g 8 l h b)

-- a flag that is 1 stays so where a flag is set
put_stays : (y : Image) (address l other m : ℕ) → on page11 address < length y → l < 8 → m < 8 → get y (flag_at other m) ≡ 1
    → get (put y (flag_at address l) 1) (flag_at other m) ≡ 1
put_stays y address l other m n b c e = split (eqb (on page11 other) (on page11 address))
    (λ q. here (eqb-true _ _ q))
    (λ q. get-same y _ (flag_at other m) (byte_other y (flag_at address l) 1 _ (apart-bytes (eqb-false _ _ q))) ∙ e)
  where
    in_byte : (a k : ℕ) → k < 8 → (flag_at a k).byte ≡ on page11 a
    in_byte a k h = omega (arith, lane-from (on page11 a) 1 k h refl, lane-to (on page11 a) 1 k h refl)

    apart-bytes : on page11 other ≢ on page11 address → (flag_at other m).byte ≢ (flag_at address l).byte
    apart-bytes d = rw (in_byte other m c, in_byte address l b) d

    one : get (put y (flag_at address l) 1) (flag_at address l) ≡ 1
    one = get-put-fits y (flag_at address l) 1 (rw (in_byte address l b) n) (rw (lane-width (on page11 address) 1 l) (omega arith))

    here : on page11 other ≡ on page11 address → get (put y (flag_at address l) 1) (flag_at other m) ≡ 1
    here q = rw q (split (eqb m l)
        (λ t. rw (eqb-true m l t) one)
        (λ t. get-apart y (flag_at address l) 1 (flag_at address m) (lanes-apart (on page11 address) 1 l m (λ r. eqb-false m l t (sym r))) ∙ rw q at e))

-- .. where the flags of a set's lanes are
pub flag_stays : (x : Image) (address g other m : ℕ) → on page11 address < length x → m < 8 → get x (flag_at other m) ≡ 1
    → get (with_flags address g x) (flag_at other m) ≡ 1
unfolding with_flags
flag_stays x address g other m n c e = (each_ind (has g) _ Holds 8 step x (n, e)).1
  where
    Holds : Image → Type 0
    Holds y = (on page11 address < length y) × (get y (flag_at other m) ≡ 1)

    step : (k : ℕ) (y : Image) → k < 8 → has g k ≡ true → Holds y → Holds (put y (flag_at address k) 1)
    step k y h t p = (omega (arith, length-put y (flag_at address k) 1, p.0), put_stays y address k other m p.0 h c p.1)

-- .. where a sample passes its limit or not
module _ (test : Bool) (address l : ℕ) (x : Image) (n : on page11 address < length x) (b : l < 8) where
  pub raised_stays : (other m : ℕ) → m < 8 → get x (flag_at other m) ≡ 1 → get (raised_image test address l x) (flag_at other m) ≡ 1
  unfolding raised_image
  raised_stays other m c e = split test
      (λ t. rw (only_true (λ z. put z (flag_at address l) 1) x t) (put_stays x address l other m n b c e))
      (λ t. rw (only_false (λ z. put z (flag_at address l) 1) x t) e)

  pub raised_in : test ≡ true → get (raised_image test address l x) (flag_at address l) ≡ 1
  unfolding raised_image
  raised_in t = rw (only_true (λ z. put z (flag_at address l) 1) x t)
      (get-put-fits x (flag_at address l) 1 (omega (arith, lane-to (on page11 address) 1 l b refl)) (rw (lane-width (on page11 address) 1 l) (omega arith)))

  pub raised_length : length (raised_image test address l x) ≡ length x
  unfolding raised_image
  raised_length = split test
      (λ t. rw (only_true (λ z. put z (flag_at address l) 1) x t) (length-put x (flag_at address l) 1))
      (λ t. rw (only_false (λ z. put z (flag_at address l) 1) x t) refl)

-- ---- settings

-- no two fields of the active set share a bit
active_table : all_apart 8 (λ k. active_set + get_or setting_offsets k 0) (λ k. get_or setting_widths k 0) ≡ true
unfolding all_apart all_below either both apart lane_field
active_table = refl

active-apart : (j l k m : ℕ) → j < 8 → l < 8 → k < 8 → m < 8 → (j ≡ k → l ≡ m → ⊥) → apart (setting_at active_set j l) (setting_at active_set k m) ≡ true
unfolding setting_at
active-apart j l k m hj hl hk hm d =
    table_apart 8 (λ k. active_set + get_or setting_offsets k 0) (λ k. get_or setting_widths k 0) j l k m active_table hj hl hk hm d

setting_wide : (base k l : ℕ) → (setting_at base k l).width ≡ get_or setting_widths k 0
unfolding setting_at
setting_wide base k l = lane-width _ _ l

active_back : (h : Settings) (l k : ℕ) (x : Image) → length x ≡ image_length → l < 8 → k < 8 → Fits h
    → get (with_active h l x) (setting_at active_set k l) ≡ get_or (setting_values h) k 0
unfolding with_active
active_back h l k x n b hk f =
    get_puts (λ k. true) (λ k. setting_at active_set k l) (λ k. get_or (setting_values h) k 0) 8 k x hk
    (omega (arith, setting-to active_set k l hk b)) (λ j hj d. active-apart j l k l hj b hk b (λ e q. d e))
    ∙ pick_true _ _ refl ∙ rw (setting_wide active_set k l) (mod-eq_of_lt (f k hk))

-- the lane's settings are the values
pub active_in : (h : Settings) (l : ℕ) (x : Image) → length x ≡ image_length → l < 8 → Fits h → settings_at active_set (with_active h l x) l ≡ h
unfolding settings_at setting_values
active_in h l x n b f =
    settings_path (at 0 (omega arith)) (at 1 (omega arith)) (at 2 (omega arith)) (at 3 (omega arith))
    (at 4 (omega arith)) (at 5 (omega arith)) (at 6 (omega arith)) (at 7 (omega arith))
  where
    at : (k : ℕ) → k < 8 → get (with_active h l x) (setting_at active_set k l) ≡ get_or (setting_values h) k 0
    at k hk = active_back h l k x n b hk f

-- the other lanes' stay
pub active-out : (h : Settings) (l m : ℕ) (x : Image) → l < 8 → m < 8 → OtherLane l m → settings_at active_set (with_active h l x) m ≡ settings_at active_set x m
unfolding with_active
active-out h l m x b bm d = settings_at_same active_set x _ m (λ k hk.
    get_puts_apart (λ k. true) (λ k. setting_at active_set k l) (λ k. get_or (setting_values h) k 0) 8 x (setting_at active_set k m)
    (λ j hj t. active-apart j l k m hj b hk bm (λ e q. d (sym q))))

-- ---- what fits

value_at : (base : ℕ) (x : Image) (l k : ℕ) → k < 8 → get_or (setting_values (settings_at base x l)) k 0 ≡ get x (setting_at base k l)
unfolding setting_values settings_at
value_at base x l = by_setting (λ k. get_or (setting_values (settings_at base x l)) k 0 ≡ get x (setting_at base k l)) refl refl refl refl refl refl refl refl

-- what is read off the image fits
pub read_fits : (base : ℕ) (x : Image) (l : ℕ) → Fits (settings_at base x l)
read_fits base x l k h = rw (value_at base x l k h, ← (setting_wide base k l)) (get-lt x (setting_at base k l))

-- so does what copying writes, if what is held does
module_fits : (h : Settings) → Fits h → Fits (by_module h)
unfolding by_module setting_values
module_fits h f = by_setting (λ k. get_or (setting_values (by_module h)) k 0 < 2 ^ get_or setting_widths k 0)
    (f 0 (omega arith)) (omega arith) (omega arith) (omega arith) (omega arith) (omega arith) (omega arith) (omega arith)

none-fits : Fits no_settings
unfolding setting_values
none-fits = by_setting (λ k. get_or (setting_values no_settings) k 0 < 2 ^ get_or setting_widths k 0)
    (omega arith) (omega arith) (omega arith) (omega arith) (omega arith) (omega arith) (omega arith) (omega arith)

pub written_fits : (h : Settings) → Fits h → Fits (written_settings h)
unfolding written_settings pick
written_fits h f = split (is_used h)
    (λ u. split (eqb (explicit h) 1) (λ e. rw (u, e, pick) f) (λ e. rw (u, e, pick) (module_fits h f)))
    (λ u. rw (u, pick) none-fits)
