-- Sets of lanes with a byte for each lane: put side by side, for every set by computation. Assumes nothing.
use mathlib.Core.Path.{◌≡◌, refl, sym, ap, ◌∙◌}
use mathlib.Core.Bool.{Bool, true, false}
use mathlib.Core.Logic.{◌≢◌}
use Prim.Native.Nat.{ℕ, ◌+◌, ◌*◌, ◌/◌, ◌%◌, ◌^◌, ◌≤◌, ◌<◌}
use native.Mathlib.Decide.{dec_lt, ℕ_discrete}
use native.Mathlib.Omega.{arith}
use borrow.Author.Tests.{eqb-true, eq-eqb, ne_eqb}
use lib.Bits.{bit_and, bit_or}
use lib.Dec.{eqb}
use mir.Val.{bool_byte}
use Rattle.bits.specs.Choice.{both}
use Rattle.bits.specs.Loop.{all_below}
use Rattle.bits.specs.Number.{field, with_field}
use Rattle.bits.specs.Sets.{has, mask_of}
use Rattle.bits.proofs.Loops.{all_at}
use Rattle.bits.proofs.Masks.{set_ext, has-none, has-mask, has_past, mask_lt}
use Rattle.hardware_paths.specs.Bytewise.{bytewise, lowest_bits}

abbrev pairs : ℕ → ℕ
pairs z = bit_or z (z / 128)

abbrev quads : ℕ → ℕ
quads z = bit_or (pairs z) (pairs z / 16384)

abbrev pub side_by_side : ℕ → ℕ
side_by_side z = bit_or (quads z) (quads z / 268435456) % 256

every_set : all_below 256 (λ g. eqb (side_by_side (bytewise g)) g) ≡ true
unfolding all_below both bytewise mask_of has with_field field
every_set = refl

pub side_by_side_lem : (z : ℕ) → z ≡ bytewise (lowest_bits z) → side_by_side z ≡ lowest_bits z
unfolding lowest_bits
side_by_side_lem z e = ap side_by_side e ∙ eqb-true _ _ (all_at 256 _ every_set (lowest_bits z) (mask_lt 8 (λ m. has z (8 * m))))

-- a number whose other bits are 0
pub is_bytewise : (z : ℕ) → z < 2 ^ 64 → ((k : ℕ) → k < 64 → k % 8 ≢ 0 → has z k ≡ false) → z ≡ bytewise (lowest_bits z)
unfolding bytewise lowest_bits both
is_bytewise z h n = set_ext z _ (λ k. elim (dec_lt k 64) [
  | no d ↦ has-none z 64 k h (omega arith) ∙ sym (has_past 64 _ k (omega arith))
  | yes d ↦ elim (ℕ_discrete (k % 8) 0) [
    | no e ↦ n k d e ∙ sym (has-mask 64 _ k d ∙ rw (ne_eqb (k % 8) 0 e))
    | yes e ↦ let f : 8 * (k / 8) ≡ k = omega arith in
        sym (has-mask 64 _ k d ∙ rw (eq-eqb (k % 8) 0 e, has-mask 8 (λ m. has z (8 * m)) (k / 8) (omega arith), f))
  ]
])
