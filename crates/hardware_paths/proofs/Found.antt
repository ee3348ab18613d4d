-- The lanes that the tests of all bytes leave are those of the lane's path. Assumes nothing.
use mathlib.Core.Path.{◌≡◌, refl, sym, ap, ap₂, ◌∙◌}
use mathlib.Core.Bool.{Bool, true, false, not}
use mathlib.Core.List.{List}
use mathlib.Core.Logic.{◌≢◌}
use Prim.Native.Nat.{ℕ, ◌+◌, ◌-◌, ◌*◌, ◌/◌, ◌%◌, ◌^◌, ◌≤◌, ◌<◌}
use native.Mathlib.Omega.{arith}
use borrow.Author.Tests.{eq-eqb, ne_eqb}
use lib.Bits.{bit_and, bit_or, bit_xor, and_le_r, or_lt, xor_lt}
use lib.Dec.{eqb}
use lib.ListN.{get_or}
use lib.Pow.{shr_le}
use Rattle.bits.specs.Choice.{both, either, same}
use Rattle.bits.specs.Lane.{lane_field}
use Rattle.bits.specs.Number.{field}
use Rattle.bits.specs.Place.{get, digit}
use Rattle.bits.specs.Sets.{has, mask_of}
use Rattle.bits.proofs.Masks.{mask_ext}
use Rattle.bits.proofs.Number.{lowest}
use Rattle.bits.proofs.Places.{Bytes}
use Rattle.bits.proofs.Sets.{has_and, has_or, has_rest}
use Rattle.bits.proofs.Tests.{eqb_sym}
use Rattle.bits_low.specs.LowFirst.{low_first}
use Rattle.bits_low.proofs.Low.{low-lt, low_digit}
use Rattle.model.specs.Map.{Image, active_set}
use Rattle.model.specs.View.{app_sel, path_id, of, is_used, settings_of, same_path, path_of}
use Rattle.view_paths.proofs.Lanes.{config_of}
use Rattle.hardware_paths.specs.Bytewise.{bytewise, lowest_bits}
use Rattle.hardware_paths.proofs.Lowest.{is_bytewise}
use Rattle.hardware_paths.proofs.Same.{has_shr, has_xor, lowest_has, repeat_has, used-bits, differs, same_id}

-- what the code computes of all bytes and the lane's own
abbrev pub differ : ℕ → ℕ → ℕ
differ all own = bit_xor all (bit_and own 14 * 72340172838076673)

abbrev pub other : ℕ → ℕ → ℕ
other all own = bit_or (bit_or (differ all own / 2) (differ all own / 4)) (differ all own / 8)

abbrev pub used : ℕ → ℕ
used all = bit_or (bit_or (all / 16) (all / 32)) (bit_or (all / 64) (all / 128))

abbrev pub left : ℕ → ℕ → ℕ
left all own = bit_and (bit_and (used all) (18446744073709551615 - other all own)) 72340172838076673

both-none : (a : Bool) → both a false ≡ false
unfolding both
both-none true = refl
both-none false = refl

both_true : (a : Bool) → both a true ≡ a
unfolding both
both_true true = refl
both_true false = refl

-- none but the lowest bits
pub left_bytewise : (all own : ℕ) → left all own ≡ bytewise (lowest_bits (left all own))
left_bytewise all own =
    is_bytewise (left all own) (omega (arith, and_le_r (bit_and (used all) (18446744073709551615 - other all own)) 72340172838076673))
    (λ k l n. has_and (bit_and (used all) (18446744073709551615 - other all own)) 72340172838076673 k
    ∙ rw (lowest_has k l, ne_eqb (k % 8) 0 n) (both-none (has (bit_and (used all) (18446744073709551615 - other all own)) k)))

module _ (x : Image) (l : ℕ) (bytes : Bytes x) (hl : l < 8) where
  abbrev all : ℕ
  all = low_first 8 x active_set

  abbrev own : ℕ
  own = get_or x (active_set + l) 0

  byte-has : (m b : ℕ) → m < 8 → b < 8 → has all (8 * m + b) ≡ has (get_or x (active_set + m) 0) b
  unfolding has digit
  byte-has m b h d = ap (λ n. eqb n 1) (low_digit 8 x active_set m b bytes h d)

  -- bit b of byte m, moved to its lowest
  moved : (z m b : ℕ) → has (z / 2 ^ b) (8 * m) ≡ has z (8 * m + b)
  moved z m b = let e : b + 8 * m ≡ 8 * m + b = omega arith in rw e at (has_shr z b (8 * m))

  id_has : (m b : ℕ) → m < 8 → b < 8 → has 14 b ≡ true → has (bit_and own 14 * 72340172838076673) (8 * m + b) ≡ has own b
  id_has m b h d t =
      let e : (8 * m + b) % 8 ≡ b = omega arith in
      repeat_has (bit_and own 14) (8 * m + b) (omega (arith, and_le_r own 14)) (omega arith)
      ∙ rw e (has_and own 14 b ∙ rw t (both_true (has own b)))

  differ_at : (m b : ℕ) → m < 8 → b < 8 → has 14 b ≡ true → has (differ all own / 2 ^ b) (8 * m) ≡ differs (get_or x (active_set + m) 0) own b
  differ_at m b h d t =
      moved (differ all own) m b ∙ has_xor all (bit_and own 14 * 72340172838076673) (8 * m + b)
      ∙ ap not (ap₂ same (byte-has m b h d) (id_has m b h d t))

  other_at : (m : ℕ) → m < 8 → has (other all own) (8 * m) ≡ either (either (differs (get_or x (active_set + m) 0) own 1) (differs (get_or x (active_set + m) 0) own 2)) (differs (get_or x (active_set + m) 0) own 3)
  unfolding has field
  other_at m h =
      has_or (bit_or (differ all own / 2) (differ all own / 4)) (differ all own / 8) (8 * m)
      ∙ ap₂ either
      (has_or (differ all own / 2) (differ all own / 4) (8 * m) ∙ ap₂ either (differ_at m 1 h (omega arith) refl) (differ_at m 2 h (omega arith) refl))
      (differ_at m 3 h (omega arith) refl)

  used_at : (m : ℕ) → m < 8 → has (used all) (8 * m) ≡ not (eqb (field (get_or x (active_set + m) 0) 4 4) 0)
  used_at m h =
      has_or (bit_or (all / 16) (all / 32)) (bit_or (all / 64) (all / 128)) (8 * m)
      ∙ ap₂ either
      (has_or (all / 16) (all / 32) (8 * m) ∙ ap₂ either (moved all m 4 ∙ byte-has m 4 h (omega arith)) (moved all m 5 ∙ byte-has m 5 h (omega arith)))
      (has_or (all / 64) (all / 128) (8 * m) ∙ ap₂ either (moved all m 6 ∙ byte-has m 6 h (omega arith)) (moved all m 7 ∙ byte-has m 7 h (omega arith)))
      ∙ sym (used-bits (get_or x (active_set + m) 0))

  other_lt : other all own < 2 ^ 64
  other_lt =
      let d : differ all own < 2 ^ 64 = xor_lt 64 all (bit_and own 14 * 72340172838076673) (low-lt 8 x active_set bytes) (omega (arith, and_le_r own 14)) in
      or_lt 64 (bit_or (differ all own / 2) (differ all own / 4)) (differ all own / 8)
      (or_lt 64 (differ all own / 2) (differ all own / 4) (omega arith) (omega arith)) (omega arith)

  left_at : (m : ℕ) → m < 8
      → has (left all own) (8 * m) ≡ both (not (eqb (field (get_or x (active_set + m) 0) 4 4) 0)) (eqb (field (get_or x (active_set + m) 0) 1 3) (field own 1 3))
  left_at m h =
      let e : 8 * m % 8 ≡ 0 = omega arith in
      has_and (bit_and (used all) (18446744073709551615 - other all own)) 72340172838076673 (8 * m)
      ∙ rw (lowest_has (8 * m) (omega arith), eq-eqb (8 * m % 8) 0 e) (both_true (has (bit_and (used all) (18446744073709551615 - other all own)) (8 * m)))
      ∙ has_and (used all) (18446744073709551615 - other all own) (8 * m)
      ∙ ap₂ both (used_at m h) (has_rest 64 (other all own) (8 * m) other_lt (omega arith) ∙ ap not (other_at m h) ∙ sym (same_id (get_or x (active_set + m) 0) own))

  config_byte : (m : ℕ) → m < 8 → (of (settings_of active_set x) m).config ≡ get_or x (active_set + m) 0
  unfolding get lane_field
  config_byte m h =
      let e : active_set + m * 8 / 8 ≡ active_set + m = omega arith in
      let f : m * 8 % 8 ≡ 0 = omega arith in
      let g : get_or x (active_set + m) 0 % 2 ^ 8 ≡ get_or x (active_set + m) 0 = omega (arith, bytes (active_set + m)) in
      sym (config_of active_set x m h) ∙ rw (e, f) (lowest (get_or x (active_set + m) 0) 8 ∙ g)

  pub path_found : is_used (of (settings_of active_set x) l) ≡ true → lowest_bits (left all own) ≡ path_of (settings_of active_set x) l
  unfolding lowest_bits path_of same_path is_used app_sel path_id both
  path_found u = mask_ext 8 _ _ (λ m h. left_at m h
      ∙ rw (u, config_byte m h, config_byte l hl, eqb_sym (field own 1 3) (field (get_or x (active_set + m) 0) 1 3)))
