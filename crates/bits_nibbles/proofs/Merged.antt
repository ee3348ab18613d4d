-- Four bytes with a value in the nibbles of a set's lanes are what the puts leave, lane by lane: digit by digit. Assumes nothing.
use mathlib.Core.Path.{◌≡◌, sym, ap, ap₂, ◌∙◌}
use mathlib.Core.Bool.{true, false}
use mathlib.Core.List.{List}
use mathlib.Core.Logic.{◌≢◌, ◌⊎◌, inl, inr}
use Prim.Native.Nat.{ℕ, ◌+◌, ◌-◌, ◌*◌, ◌/◌, ◌%◌, ◌^◌, ◌≤◌, ◌<◌}
use native.Mathlib.Decide.{dec_lt, ℕ_discrete}
use native.Mathlib.Omega.{arith}
use lib.Bits.{bit_and, bit_or, and_le_l, or_lt}
use lib.ListN.{length, get_or, set, length-set}
use lib.Seq.{get_or-set_same, get_or-set_other}
use mir.Val.{bool_byte}
use Rattle.bits.specs.Choice.{pick, both, either}
use Rattle.bits.specs.Lane.{lane_field}
use Rattle.bits.specs.Loop.{each}
use Rattle.bits.specs.Number.{field}
use Rattle.bits.specs.Place.{put, digit, covers}
use Rattle.bits.specs.Sets.{has}
use Rattle.bits.proofs.Loops.{each_skip, each_hit, length_puts}
use Rattle.bits.proofs.Masks.{digit-has, has-mask, mask_lt}
use Rattle.bits.proofs.Number.{got_lt, digit-of-field, field_past}
use Rattle.bits.proofs.Places.{Bytes, covers_in, in_covers, digit-put-out, digit-put_in, image_ext}
use Rattle.bits.proofs.Sets.{has_and, has_or, has_rest}
use Rattle.bits.proofs.Tests.{split, clash, choose, pick_true, pick-false}
use Rattle.bits_low.specs.LowFirst.{low_first}
use Rattle.bits_low.proofs.Low.{low-lt, low_digit}
use Rattle.bits_nibbles.specs.Nibbles.{nibbles_of, put_low4}
use Rattle.bits_nibbles.proofs.Spread.{repeated}

-- the four bytes as one number: the value's digits in the set's nibbles, and the old ones elsewhere
abbrev merged : ℕ → ℕ → ℕ → ℕ
merged old m value = bit_or (bit_and old (4294967295 - m)) (bit_and value m)

merged_has : (old m value k : ℕ) → m < 2 ^ 32 → k < 32 → has (merged old m value) k ≡ pick (has m k) (has value k) (has old k)
merged_has old m value k h l =
    has_or (bit_and old (4294967295 - m)) (bit_and value m) k
    ∙ ap₂ either (has_and old (4294967295 - m) k ∙ ap (both (has old k)) (has_rest 32 m k h l)) (has_and value m k)
    ∙ choose (has m k) (has value k) (has old k)

-- the digits of the bytes that a number is put into, and those of the others
module _ (x : List ℕ) (at z : ℕ) (h : at + 4 ≤ length x) (k : z < 4294967296) where
  length-low : length (put_low4 x at z) ≡ length x
  unfolding put_low4
  length-low = rw (length-set, length-set, length-set, length-set)

  -- after the first byte, the second and the third
  abbrev x₁ : List ℕ
  x₁ = set x at (z % 256)

  abbrev x₂ : List ℕ
  x₂ = set x₁ (at + 1) (z / 256 % 256)

  abbrev x₃ : List ℕ
  x₃ = set x₂ (at + 2) (z / 65536 % 256)

  outside : (i : ℕ) → i ≢ at → i ≢ at + 1 → i ≢ at + 2 → i ≢ at + 3 → get_or (put_low4 x at z) i 0 ≡ get_or x i 0
  unfolding put_low4
  outside i p q r s =
      get_or-set_other x₃ (at + 3) i (z / 16777216) 0 s ∙ get_or-set_other x₂ (at + 2) i (z / 65536 % 256) 0 r
      ∙ get_or-set_other x₁ (at + 1) i (z / 256 % 256) 0 q ∙ get_or-set_other x at i (z % 256) 0 p

  byte_0 : get_or (put_low4 x at z) at 0 ≡ z % 256
  unfolding put_low4
  byte_0 =
      get_or-set_other x₃ (at + 3) at (z / 16777216) 0 (omega arith) ∙ get_or-set_other x₂ (at + 2) at (z / 65536 % 256) 0 (omega arith)
      ∙ get_or-set_other x₁ (at + 1) at (z / 256 % 256) 0 (omega arith) ∙ get_or-set_same x at (z % 256) 0 (omega arith)

  byte_1 : get_or (put_low4 x at z) (at + 1) 0 ≡ z / 256 % 256
  unfolding put_low4
  byte_1 =
      get_or-set_other x₃ (at + 3) (at + 1) (z / 16777216) 0 (omega arith) ∙ get_or-set_other x₂ (at + 2) (at + 1) (z / 65536 % 256) 0 (omega arith)
      ∙ get_or-set_same x₁ (at + 1) (z / 256 % 256) 0 (rw length-set (omega arith))

  byte_2 : get_or (put_low4 x at z) (at + 2) 0 ≡ z / 65536 % 256
  unfolding put_low4
  byte_2 =
      get_or-set_other x₃ (at + 3) (at + 2) (z / 16777216) 0 (omega arith)
      ∙ get_or-set_same x₂ (at + 2) (z / 65536 % 256) 0 (rw (length-set, length-set) (omega arith))

  byte_3 : get_or (put_low4 x at z) (at + 3) 0 ≡ z / 16777216 % 256
  unfolding put_low4
  byte_3 =
      let e : z / 16777216 % 256 ≡ z / 16777216 = omega arith in
      rw e (get_or-set_same x₃ (at + 3) (z / 16777216) 0 (rw (length-set, length-set, length-set) (omega arith)))

  -- byte j
  inside : (j : ℕ) → j < 4 → get_or (put_low4 x at z) (at + j) 0 ≡ field z (8 * j) 8
  unfolding field
  inside j l = elim (ℕ_discrete j 0) [
    | yes e ↦ let f : at + 0 ≡ at = omega arith in let g : z / 2 ^ (8 * 0) % 2 ^ 8 ≡ z % 256 = omega arith in rw (e, f, g) byte_0
    | no n₀ ↦ elim (ℕ_discrete j 1) [
      | yes e ↦ rw e byte_1
      | no n₁ ↦ elim (ℕ_discrete j 2) [
        | yes e ↦ rw e byte_2
        | no n₂ ↦ let e : j ≡ 3 = omega arith in rw e byte_3
      ]
    ]
  ]

  low_digits : (j b : ℕ) → j < 4 → b < 8 → digit (put_low4 x at z) (at + j) b ≡ field z (8 * j + b) 1
  unfolding digit
  low_digits j b l d = ap (λ n. field n b 1) (inside j l) ∙ digit-of-field z (8 * j) 8 b d

-- ---- the puts
-- lane l's nibble has bit b of byte j, for l = 2 j + b / 4; no other lane's has it
its-lane : (at j b : ℕ) → b < 8 → covers (lane_field at 4 (2 * j + b / 4)) (at + j) b ≡ true
unfolding lane_field
its-lane at j b d = in_covers (record { here = omega arith; from = omega arith; to = omega arith })

other_lane : (at j b k : ℕ) → k ≢ 2 * j + b / 4 → covers (lane_field at 4 k) (at + j) b ≡ false
unfolding lane_field
other_lane at j b k n = split (covers (lane_field at 4 k) (at + j) b)
    (λ t. let i = covers_in (lane_field at 4 k) (at + j) b t in absurd (n (omega (arith, i.here, i.from, i.to))))
    (λ f. f)

-- no lane's has a bit of another byte, or one that a byte does not have
other_byte : (at i b k : ℕ) → k < 8 → (i < at) → covers (lane_field at 4 k) i b ≡ false
unfolding lane_field
other_byte at i b k l n = split (covers (lane_field at 4 k) i b)
    (λ t. let c = covers_in (lane_field at 4 k) i b t in absurd (omega (arith, c.here)))
    (λ f. f)

later_byte : (at i b k : ℕ) → k < 8 → at + 4 ≤ i → covers (lane_field at 4 k) i b ≡ false
unfolding lane_field
later_byte at i b k l n = split (covers (lane_field at 4 k) i b)
    (λ t. let c = covers_in (lane_field at 4 k) i b t in absurd (omega (arith, c.here)))
    (λ f. f)

no_bit : (at i b k : ℕ) → 8 ≤ b → covers (lane_field at 4 k) i b ≡ false
unfolding lane_field
no_bit at i b k n = split (covers (lane_field at 4 k) i b)
    (λ t. let c = covers_in (lane_field at 4 k) i b t in absurd (omega (arith, c.to)))
    (λ f. f)

module _ (x : List ℕ) (at s v : ℕ) where
  abbrev puts : ℕ → List ℕ
  puts n = each (has s) (λ l y. put y (lane_field at 4 l) v) n x

  untouched : (i b : ℕ) → ((k : ℕ) → k < 8 → covers (lane_field at 4 k) i b ≡ false) → digit (puts 8) i b ≡ digit x i b
  untouched i b h = each_skip (has s) (λ l y. put y (lane_field at 4 l) v) (λ y. digit y i b) 8 x (λ k y l t. digit-put-out y (lane_field at 4 k) v i b (h k l))

  within : (j b : ℕ) → j < 4 → b < 8 → at + 4 ≤ length x → (lane_field at 4 (2 * j + b / 4)).byte < length (puts (2 * j + b / 4))
  unfolding lane_field
  within j b l d h = rw (length_puts (has s) (λ k. lane_field at 4 k) (λ k. v) (2 * j + b / 4) x) (omega arith)

  shifted : (j b : ℕ) → b < 8 → b - (lane_field at 4 (2 * j + b / 4)).shift ≡ b % 4
  unfolding lane_field
  shifted j b d = omega arith

  here : (j b : ℕ) → j < 4 → b < 8 → at + 4 ≤ length x
      → digit (put (puts (2 * j + b / 4)) (lane_field at 4 (2 * j + b / 4)) v) (at + j) b ≡ field v (b % 4) 1
  here j b l d h =
      digit-put_in (puts (2 * j + b / 4)) (lane_field at 4 (2 * j + b / 4)) v (at + j) b (within j b l d h) (its-lane at j b d) ∙ ap (λ k. field v k 1) (shifted j b d)

  touched : (j b : ℕ) → j < 4 → b < 8 → at + 4 ≤ length x → digit (puts 8) (at + j) b ≡ pick (has s (2 * j + b / 4)) (field v (b % 4) 1) (digit x (at + j) b)
  touched j b l d h = split (has s (2 * j + b / 4))
      (λ t. each_hit (has s) (λ l y. put y (lane_field at 4 l) v) (λ y. digit y (at + j) b) (2 * j + b / 4) 8 x (omega arith) t
      (λ k y a c u. digit-put-out y (lane_field at 4 k) v (at + j) b (other_lane at j b k (omega arith)))
      ∙ here j b l d h ∙ sym (pick_true _ _ t))
      (λ f. each_skip (has s) (λ l y. put y (lane_field at 4 l) v) (λ y. digit y (at + j) b) 8 x
      (λ k y c u. digit-put-out y (lane_field at 4 k) v (at + j) b (other_lane at j b k (λ q. clash (rw q at u) f)))
      ∙ sym (pick-false _ _ f))

-- ---- both together
merged_digit : (old m value k : ℕ) → m < 2 ^ 32 → k < 32 → field (merged old m value) k 1 ≡ pick (has m k) (field value k 1) (field old k 1)
merged_digit old m value k h l = digit-has (merged old m value) k ∙ ap bool_byte (merged_has old m value k h l) ∙ split (has m k)
    (λ t. ap bool_byte (pick_true (has value k) (has old k) t) ∙ sym (digit-has value k) ∙ sym (pick_true _ _ t))
    (λ f. ap bool_byte (pick-false (has value k) (has old k) f) ∙ sym (digit-has old k) ∙ sym (pick-false _ _ f))

module _ (x : List ℕ) (at s v : ℕ) (h : at + 4 ≤ length x) (bytes : Bytes x) where
  abbrev z : ℕ
  z = merged (low_first 4 x at) (nibbles_of s) (v % 16 * 286331153)

  z_lt : z < 4294967296
  z_lt = or_lt 32 (bit_and (low_first 4 x at) (4294967295 - nibbles_of s)) (bit_and (v % 16 * 286331153) (nibbles_of s))
      (omega (arith, and_le_l (low_first 4 x at) (4294967295 - nibbles_of s), low-lt 4 x at bytes))
      (omega (arith, and_le_l (v % 16 * 286331153) (nibbles_of s)))

  -- digit b of byte j
  merged_at : (j b : ℕ) → j < 4 → b < 8 → field z (8 * j + b) 1 ≡ pick (has s (2 * j + b / 4)) (field v (b % 4) 1) (digit x (at + j) b)
  unfolding nibbles_of
  merged_at j b l d =
      let e : (8 * j + b) / 4 ≡ 2 * j + b / 4 = omega arith in
      let f : (8 * j + b) % 4 ≡ b % 4 = omega arith in
      merged_digit (low_first 4 x at) (nibbles_of s) (v % 16 * 286331153) (8 * j + b) (mask_lt 32 (λ k. has s (k / 4))) (omega arith)
      ∙ rw (has-mask 32 (λ k. has s (k / 4)) (8 * j + b) (omega arith), e, repeated v (8 * j + b) (omega arith), f, low_digit 4 x at j b bytes l d)

  inner : (j b : ℕ) → j < 4 → b < 8 → digit (put_low4 x at z) (at + j) b ≡ digit (puts x at s v 8) (at + j) b
  inner j b l d = low_digits x at z h z_lt j b l d ∙ merged_at j b l d ∙ sym (touched x at s v j b l d h)

  outer : (i b : ℕ) → (i < at) ⊎ (at + 4 ≤ i) → digit (put_low4 x at z) i b ≡ digit (puts x at s v 8) i b
  unfolding digit
  outer i b (inl n) =
      ap (λ k. field k b 1) (outside x at z h z_lt i (omega arith) (omega arith) (omega arith) (omega arith))
      ∙ sym (untouched x at s v i b (λ k l. other_byte at i b k l n))
  outer i b (inr n) =
      ap (λ k. field k b 1) (outside x at z h z_lt i (omega arith) (omega arith) (omega arith) (omega arith))
      ∙ sym (untouched x at s v i b (λ k l. later_byte at i b k l n))

  -- a byte has no more than eight digits
  above : (j b : ℕ) → j < 4 → 8 ≤ b → digit (put_low4 x at z) (at + j) b ≡ digit (puts x at s v 8) (at + j) b
  unfolding digit
  above j b l d =
      ap (λ k. field k b 1) (inside x at z h z_lt j l) ∙ field_past (field z (8 * j) 8) 8 b 1 (got_lt z (8 * j) 8) d
      ∙ sym (untouched x at s v (at + j) b (λ k c. no_bit at (at + j) b k d) ∙ field_past (get_or x (at + j) 0) 8 b 1 (bytes (at + j)) d)

  every_digit : (i b : ℕ) → digit (put_low4 x at z) i b ≡ digit (puts x at s v 8) i b
  every_digit i b = elim (dec_lt i at) [
    | yes n ↦ outer i b (inl n)
    | no n ↦ elim (dec_lt i (at + 4)) [
      | no m ↦ outer i b (inr (omega arith))
      | yes m ↦ let e : i ≡ at + (i - at) = omega arith in
          elim (dec_lt b 8) [
            | yes d ↦ rw e (inner (i - at) b (omega arith) d)
            | no d ↦ rw e (above (i - at) b (omega arith) (omega arith))
          ]
    ]
  ]

  pub merged_puts : put_low4 x at z ≡ each (has s) (λ l y. put y (lane_field at 4 l) v) 8 x
  merged_puts = image_ext _ _ (length-low x at z h z_lt ∙ sym (length_puts (has s) (λ k. lane_field at 4 k) (λ k. v) 8 x)) every_digit
