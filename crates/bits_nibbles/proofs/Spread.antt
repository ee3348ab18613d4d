-- The nibbles of every set of lanes, and a value repeated in every nibble, by computation. Assumes nothing.
use mathlib.Core.Path.{◌≡◌, refl, sym, ap, ◌∙◌}
use mathlib.Core.Bool.{true}
use Prim.Native.Nat.{ℕ, ◌+◌, ◌*◌, ◌/◌, ◌%◌, ◌<◌}
use native.Mathlib.Omega.{arith}
use borrow.Author.Tests.{eqb-true}
use lib.Bits.{bit_and, bit_or}
use lib.Dec.{eqb}
use Rattle.bits.specs.Choice.{both}
use Rattle.bits.specs.Loop.{all_below}
use Rattle.bits.specs.Number.{field, with_field}
use Rattle.bits.specs.Sets.{has, mask_of}
use Rattle.bits.proofs.Loops.{all_at}
use Rattle.bits.proofs.Masks.{mask_lt}
use Rattle.bits.proofs.Number.{digit-of-field, lowest}
use Rattle.bits_nibbles.specs.Nibbles.{nibbles_of}

-- the lanes moved apart by halves, as the code does it
abbrev halves : ℕ → ℕ
halves s = bit_and (bit_or s (s * 4096 % 4294967296)) 983055

abbrev pairs : ℕ → ℕ
pairs s = bit_and (bit_or (halves s) (halves s * 64 % 4294967296)) 50529027

abbrev pub singles : ℕ → ℕ
singles s = bit_and (bit_or (pairs s) (pairs s * 8 % 4294967296)) 286331153

every_set : all_below 256 (λ s. eqb (singles s * 15) (nibbles_of s)) ≡ true
unfolding all_below both nibbles_of mask_of has with_field field
every_set = refl

pub spread_is : (s : ℕ) → s < 256 → singles s * 15 ≡ nibbles_of s
spread_is s h = eqb-true _ _ (all_at 256 _ every_set s h)

pub spread_lt : (s : ℕ) → s < 256 → singles s * 15 < 4294967296
unfolding nibbles_of
spread_lt s h = rw (spread_is s h) (mask_lt 32 (λ b. has s (b / 4)))

-- a value below 16 in every nibble
every_value : all_below 16 (λ u. all_below 32 (λ b. eqb (field (u * 286331153) b 1) (field u (b % 4) 1))) ≡ true
unfolding all_below both field
every_value = refl

pub repeated : (v b : ℕ) → b < 32 → field (v % 16 * 286331153) b 1 ≡ field v (b % 4) 1
repeated v b h =
    let e : 0 + b % 4 ≡ b % 4 = omega arith in
    eqb-true _ _ (all_at 32 _ (all_at 16 _ every_value (v % 16) (omega arith)) b h)
    ∙ ap (λ z. field z (b % 4) 1) (sym (lowest v 4)) ∙ rw e at (digit-of-field v 0 4 (b % 4) (omega arith))
