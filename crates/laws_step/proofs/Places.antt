-- Where the registers lie that events change: each in bytes of its own. Assumes nothing.
use mathlib.Core.Path.{◌≡◌, refl}
use mathlib.Core.Bool.{true, false}
use mathlib.Core.List.{[], ◌∷◌}
use Prim.Native.Nat.{ℕ, ◌+◌, ◌-◌, ◌%◌, ◌≤◌, ◌<◌}
use native.Mathlib.Omega.{arith}
use lib.Dec.{eqb, leb}
use lib.ListN.{length, get_or}
use borrow.Author.Tests.{eqb-true, leb-true}
use Rattle.bits.specs.Choice.{both, either}
use Rattle.bits.specs.Lane.{lane_field}
use Rattle.bits.specs.Loop.{all_below}
use Rattle.bits.specs.Place.{get, covers}
use Rattle.bits.proofs.Tests.{both_l, both_r}
use Rattle.bits.proofs.Loops.{all_at}
use Rattle.bits.proofs.Lanes.{lane_in}
use Rattle.bits.proofs.Places.{covers_in}
use Rattle.model.specs.Map.{Image, range, writable_ranges, writable, cleared_ranges, clearing, active_set, setting_offsets, setting_widths, setting_at, set_length, image_length, page11, page_length}
use Rattle.model.specs.Flags.{is_condition_flag}
use Rattle.model.specs.View.{settings_at}
use Rattle.laws_frames.proofs.Ranges.{apart_from, not_in, covered_by, all_covered, spanned}
use Rattle.laws_step.specs.Changes.{Bits, ChangesOnly}
use Rattle.laws_step.proofs.Frames.{keeps_get}

-- a byte that is written lies in the image, past byte 3, and none lies on page 11h
pub writable_in : (i : ℕ) → writable i ≡ true → (3 < i) × (i < image_length)
unfolding writable all_covered covered_by both either
writable_in i e = let r = spanned 4 (image_length - 1) writable_ranges i refl e in (omega arith, omega arith)

pub writable-out : (i : ℕ) → writable i ≡ true → page11 ≤ i → i < page11 + page_length → ⊥
unfolding writable apart_from both either
writable-out i e a b = not_in page11 (page11 + page_length) writable_ranges i refl a b e

-- the bytes that are cleared, and that conditions name
pub clearing_in : (i : ℕ) → clearing i ≡ true → (8 ≤ i) × (i ≤ 665)
unfolding clearing all_covered covered_by both either
clearing_in i e = spanned 8 665 cleared_ranges i refl e

pub condition_in : (flag : ℕ) → is_condition_flag flag ≡ true → (135 ≤ flag) × (flag ≤ 148)
unfolding is_condition_flag all_covered covered_by both either
condition_in flag e = spanned 135 148 (range 135 138 ∷ range 147 148 ∷ []) flag refl e

-- a set of settings takes 29 bytes from its base on, and no field passes a byte's end
settings_fit_lem : all_below 8 (λ k. both (leb (get_or setting_offsets k 0 + get_or setting_widths k 0) 29) (eqb (8 % get_or setting_widths k 0) 0)) ≡ true
unfolding all_below both
settings_fit_lem = refl

pub setting-bytes : (base k l i b : ℕ) → k < 8 → l < 8 → covers (setting_at base k l) i b ≡ true → (base ≤ i) × (i < base + set_length)
unfolding setting_at
setting-bytes base k l i b hk hl c =
    let t = all_at 8 _ settings_fit_lem k hk in
    let o : get_or setting_offsets k 0 + get_or setting_widths k 0 ≤ 29 = leb-true _ _ (both_l _ _ t) in
    let r = lane_in (base + get_or setting_offsets k 0) (get_or setting_widths k 0) l hl (eqb-true _ _ (both_r _ _ t)) in
    let q = (covers_in (lane_field (base + get_or setting_offsets k 0) (get_or setting_widths k 0) l) i b c).here in
    (omega arith, omega arith)

-- the active set lies in the image
pub in_image : (x : Image) (k l : ℕ) → length x ≡ image_length → l < 8 → k < 8 → (setting_at active_set k l).byte < length x
unfolding setting_at
in_image x k l size hl hk =
    let t = all_at 8 _ settings_fit_lem k hk in
    let o : get_or setting_offsets k 0 + get_or setting_widths k 0 ≤ 29 = leb-true _ _ (both_l _ _ t) in
    let r = lane_in (active_set + get_or setting_offsets k 0) (get_or setting_widths k 0) l hl (eqb-true _ _ (both_r _ _ t)) in
    omega arith

-- a change outside the active settings leaves every one of them
pub keeps_active : {may : Bits} {x y : Image} → ChangesOnly may x y → (l : ℕ) → l < 8
    → ((i b : ℕ) → active_set ≤ i → i < active_set + 29 → may i b ≡ false) → settings_at active_set y l ≡ settings_at active_set x l
unfolding settings_at
keeps_active {x = x} {y = y} k l h n =
    rw (
      at 0 (omega arith),
      at 1 (omega arith),
      at 2 (omega arith),
      at 3 (omega arith),
      at 4 (omega arith),
      at 5 (omega arith),
      at 6 (omega arith),
      at 7 (omega arith),
    )
  where
    at : (j : ℕ) → j < 8 → get y (setting_at active_set j l) ≡ get x (setting_at active_set j l)
    at j b = keeps_get k (setting_at active_set j l) (λ i e c. let r = setting-bytes active_set j l i e b h c in n i e r.0 r.1)
