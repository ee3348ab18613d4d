-- A set gathered from its last lane down, each lane's bit put below those before it. Assumes nothing.
use mathlib.Core.Path.{◌≡◌, sym, ap, ◌∙◌}
use mathlib.Core.Bool.{Bool, true, false}
use Prim.Native.Nat.{ℕ, ◌+◌, ◌-◌, ◌*◌, ◌/◌, ◌%◌, ◌^◌, ◌≤◌, ◌<◌}
use native.Mathlib.Nat.{div-one, div-eq_of_lt, div-le_self}
use native.Mathlib.Omega.{arith}
use lib.Pow.{shr-shr}
use mir.Val.{bool_byte}
use Rattle.bits.specs.Number.{field}
use Rattle.bits.specs.Sets.{mask_of, lane_count}
use Rattle.bits.proofs.Masks.{digit-has, has-mask, mask_lt}

pub bit-fits : (b : Bool) → bool_byte b ≤ 1
bit-fits true = omega arith
bit-fits false = omega arith

-- a number from its digit j on is twice that from the next one on, and the digit
next-digit : (m j : ℕ) → m / 2 ^ j ≡ m / 2 ^ (j + 1) * 2 + field m j 1
unfolding field
next-digit m j = rw (← (shr-shr m j 1)) (omega arith)

module _ (p : ℕ → Bool) where
  -- the lanes from the k last on, as a number
  abbrev pub gathered : ℕ → ℕ
  gathered k = mask_of lane_count p / 2 ^ (lane_count - k)

  pub gather_begin : 0 ≡ gathered 0
  gather_begin = sym (div-eq_of_lt (mask_lt lane_count p))

  digit-of : (l : ℕ) → l < lane_count → field (mask_of lane_count p) l 1 ≡ bool_byte (p l)
  digit-of l h = digit-has (mask_of lane_count p) l ∙ ap bool_byte (has-mask lane_count p l h)

  pub gather_turn : (k found : ℕ) (b : Bool) → k < lane_count → found ≡ gathered k → b ≡ p (lane_count - 1 - k) → found * 2 + bool_byte b ≡ gathered (k + 1)
  gather_turn k found b h e q =
      let j : ℕ = lane_count - 1 - k in
      let up : lane_count - k ≡ j + 1 = omega arith in
      let here : lane_count - (k + 1) ≡ j = omega arith in
      rw (here, e, up, q, ← (digit-of j (omega arith))) (sym (next-digit (mask_of lane_count p) j))

  pub gather_fits : (k found : ℕ) → k < lane_count → found ≡ gathered k → found < 128
  gather_fits k found h e =
      let d : ℕ = lane_count - 1 - k in
      let up : lane_count - k ≡ 1 + d = omega arith in
      let half : gathered k ≡ mask_of lane_count p / 2 ^ 1 / 2 ^ d = rw up (sym (shr-shr (mask_of lane_count p) 1 d)) in
      omega (arith, e, half, div-le_self (mask_of lane_count p / 2 ^ 1) (2 ^ d), mask_lt lane_count p)

  pub gather_end : (found : ℕ) → found ≡ gathered lane_count → found ≡ mask_of lane_count p
  gather_end found e = e ∙ div-one (mask_of lane_count p)
