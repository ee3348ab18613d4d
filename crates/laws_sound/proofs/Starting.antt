-- What start leaves is sound, whatever the image. Assumes nothing.
use mathlib.Core.Path.{◌≡◌, refl, sym, ap, ◌∙◌}
use mathlib.Core.Bool.{Bool, true, false, not}
use Prim.Native.Nat.{ℕ, ◌+◌, ◌-◌, ◌*◌, ◌%◌, ◌≤◌, ◌<◌}
use native.Mathlib.Omega.{arith}
use lib.Dec.{eqb, ltb}
use lib.ListN.{get_or}
use borrow.Author.Tests.{eqb-true, lt-ltb, le-ltb, not-true}
use Rattle.bits.specs.Choice.{pick, both, either}
use Rattle.bits.specs.Number.{field}
use Rattle.bits.specs.Place.{get}
use Rattle.bits.specs.Lane.{lane_field}
use Rattle.bits.specs.Loop.{all_below}
use Rattle.bits.specs.declared.Place.{Place}
use Rattle.bits.proofs.Tests.{clash, both_l, both_r, pick_true, pick-false}
use Rattle.bits.proofs.Number.{field_past}
use Rattle.bits.proofs.Loops.{all_at, tab_at, length-tab}
use Rattle.bits.specs.Sets.{lane_count}
use Rattle.model.specs.Map.{Image, in_ranges, kept, active_set, status_at, pending_at, state_at, setting_at, image_length, page11, state_bytes, status_bytes, pending_byte, page_length}
use Rattle.model.specs.Statuses.{undefined}
use Rattle.model.specs.Records.{no_settings, idle_with, stage_at, is_in_progress}
use Rattle.model.specs.State.{State, state_with}
use Rattle.model.specs.View.{settings_at, settings_of, of, app_sel, is_used}
use Rattle.model.specs.Start.{all_deactivated, is_state_byte, start_value, start_byte, started_state, reset_state}
use Rattle.model.specs.declared.lane.Settings.{Settings}
use Rattle.laws_frames.proofs.Registers.{lane-from, lane-to, setting-from, setting-to, settings_path}
use Rattle.laws_frames.proofs.Stages.{idle-stage}
use Rattle.laws_frames.specs.Frames.{state_end}
use Rattle.laws_sound.proofs.Stranger.{not-idle}
use Rattle.laws_sound.proofs.Quiet.{Well}
use Rattle.laws_sound.proofs.WorkSteps.{settings-lane}
use Rattle.laws_sound.proofs.PathEvents.{states-lane}

-- ---- the bytes that start sets on page 11h

set-bytes : all_below 128 (λ k. both (not (kept (page11 + k))) (eqb (start_value (page11 + k)) (pick (ltb k 4) all_deactivated 0))) ≡ true
unfolding all_below both either pick kept in_ranges start_value is_state_byte
set-bytes = refl

kept_two : kept 2 ≡ true
unfolding kept in_ranges either both
kept_two = refl

module _ (x : Image) where
  start-byte : (i : ℕ) → i < image_length → get_or (started_state x).image i 0 ≡ start_byte x i
  unfolding started_state
  start-byte i b = tab_at image_length (start_byte x) i 0 b

  byte-set : (k : ℕ) → k < 128 → get_or (started_state x).image (page11 + k) 0 ≡ pick (ltb k 4) all_deactivated 0
  unfolding start_byte
  byte-set k b =
      let r = all_at 128 _ set-bytes k b in
      start-byte (page11 + k) (omega arith) ∙ pick-false _ _ (not-true _ (both_l _ _ r)) ∙ eqb-true _ _ (both_r _ _ r)

  zero-byte : (i : ℕ) → state_end ≤ i → i < page11 + page_length → get_or (started_state x).image i 0 ≡ 0
  zero-byte i a b =
      let e : page11 + (i - page11) ≡ i = omega arith in
      rw e at (byte-set (i - page11) (omega arith) ∙ pick-false all_deactivated 0 (le-ltb (i - page11) 4 (omega arith)))

  state-byte : (i : ℕ) → page11 ≤ i → i < state_end → get_or (started_state x).image i 0 ≡ all_deactivated
  state-byte i a b =
      let e : page11 + (i - page11) ≡ i = omega arith in
      rw e at (byte-set (i - page11) (omega arith) ∙ pick_true all_deactivated 0 (lt-ltb (i - page11) 4 (omega arith)))

  -- a place there holds 0
  zero-place : (p : Place) → state_end ≤ p.byte → p.byte < page11 + page_length → get (started_state x).image p ≡ 0
  unfolding get
  zero-place p a b = rw (zero-byte p.byte a b) (field_past 0 0 p.shift p.width (omega arith) (omega arith))

-- ---- what soundness looks at

nibbles : all_below 8 (λ l. eqb (field all_deactivated (l * 4 % 8) 4) 1) ≡ true
unfolding all_below both field
nibbles = refl

start-state : (x : Image) (l : ℕ) → l < 8 → get (started_state x).image (state_at l) ≡ 1
unfolding get lane_field
start-state x l b =
    rw (state-byte x (lane_field state_bytes 4 l).byte (lane-from state_bytes 4 l b refl) (lane-to state_bytes 4 l b refl)) (eqb-true _ _ (all_at 8 _ nibbles l b))

no_app : (h : Settings) → h.config ≡ 0 → is_used h ≡ false
unfolding is_used app_sel field
no_app h e = rw e

start-unused : (x : Image) (l : ℕ) → l < 8 → is_used (of (settings_of active_set (started_state x).image) l) ≡ false
unfolding settings_at
start-unused x l b = ap is_used (settings-lane active_set (started_state x).image l b)
    ∙ no_app (settings_at active_set (started_state x).image l)
    (zero-place x (setting_at active_set 0 l) (omega (arith, setting-from active_set 0 l (omega arith) b)) (omega (arith, setting-to active_set 0 l (omega arith) b)))

-- every active setting is 0
pub start-blank : (x : Image) (l : ℕ) → l < 8 → settings_at active_set (started_state x).image l ≡ no_settings
unfolding settings_at
start-blank x l b = settings_path (zero 0 (omega arith)) (zero 1 (omega arith)) (zero 2 (omega arith)) (zero 3 (omega arith))
    (zero 4 (omega arith)) (zero 5 (omega arith)) (zero 6 (omega arith)) (zero 7 (omega arith))
  where
    zero : (k : ℕ) → k < 8 → get (started_state x).image (setting_at active_set k l) ≡ 0
    zero k h = zero-place x (setting_at active_set k l) (omega (arith, setting-from active_set k l h b)) (omega (arith, setting-to active_set k l h b))

pub idle-lane : (line : Bool) (l : ℕ) → l < 8 → is_in_progress (stage_at (idle_with line) l) ≡ false
unfolding is_in_progress
idle-lane line l b = ap is_in_progress (idle-stage line l b)

-- ConfigStatus: no Apply since start
pub start-undefined : (x : Image) (l : ℕ) → l < lane_count → get (started_state x).image (status_at l) ≡ undefined
start-undefined x l b = zero-place x (status_at l) (omega (arith, lane-from status_bytes 4 l b refl)) (omega (arith, lane-to status_bytes 4 l b refl))

-- the image that start makes, with all lanes idle, whatever the low-power line is
fresh_well : (x : Image) (line : Bool) → Well (get_or x 2 0) (state_with (started_state x).image (idle_with line))
unfolding started_state start_byte
fresh_well x line = record {
  size = length-tab image_length (start_byte x);
  low = start-byte x 2 (omega arith) ∙ pick_true _ _ kept_two;
  sound = record {
    told = λ l b. rw (start-undefined x l b) (sym (idle-lane line l b));
    grouped = λ l p b e. absurd (not-idle (idle-stage line l b) e);
    used = λ l b f u. absurd (clash u (start-unused x l b));
    unused = λ l b f u. record {
      state = states-lane (started_state x).image l b ∙ start-state x l b;
      pending = zero-place x (pending_at l) (omega (arith, lane-from pending_byte 1 l b refl)) (omega (arith, lane-to pending_byte 1 l b refl));
    };
    passes = λ l n p b e q. absurd (not-idle (idle-stage line l b) e);
  };
}

pub start_well : (x : Image) → Well (get_or x 2 0) (started_state x)
unfolding started_state
start_well x = fresh_well x false

pub reset_well : (two : ℕ) (s : State) → Well two s → Well two (reset_state s)
unfolding reset_state
reset_well two s W = rw W.low at (fresh_well s.image s.working.line)
