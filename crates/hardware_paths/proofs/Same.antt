-- Bytes compared with one of them, all at once: whether each has an AppSel, and the same DataPathID. Assumes nothing.
use mathlib.Core.Path.{◌≡◌, refl, sym, ap, ap₂, ◌∙◌}
use mathlib.Core.Bool.{Bool, true, false, not}
use mathlib.Core.Logic.{◌⊎◌, inl, inr}
use Prim.Native.Nat.{ℕ, ◌+◌, ◌*◌, ◌/◌, ◌%◌, ◌^◌, ◌<◌}
use native.Mathlib.Omega.{arith}
use borrow.Author.Tests.{eqb-true}
use lib.Bits.{bit_and, bit_or, bit_xor, xor_shr, xor_mod}
use lib.Dec.{eqb}
use lib.Pow.{shr-shr}
use Rattle.bits.specs.Choice.{both, either, same}
use Rattle.bits.specs.Loop.{all_below, any_below}
use Rattle.bits.specs.Number.{field}
use Rattle.bits.specs.Sets.{has}
use Rattle.bits.proofs.Loops.{all_at, any_ext}
use Rattle.bits.proofs.Number.{got_lt, digit-zero_or_one, digit-of-field}
use Rattle.bits.proofs.Sets.{some_in_lem}
use Rattle.bits.proofs.Tests.{clash}

pub has_shr : (x s k : ℕ) → has (x / 2 ^ s) k ≡ has x (s + k)
unfolding has field
has_shr x s k = rw (shr-shr x s k)

-- `xor` has the lanes in which two sets differ
digit_xor : (a b l : ℕ) → field (bit_xor a b) l 1 ≡ bit_xor (field a l 1) (field b l 1)
unfolding field
digit_xor a b l = rw (xor_shr a b l, xor_mod (a / 2 ^ l) (b / 2 ^ l) 1)

pub has_xor : (a b l : ℕ) → has (bit_xor a b) l ≡ not (same (has a l) (has b l))
unfolding has same
has_xor a b l = cases (digit-zero_or_one a l) (digit-zero_or_one b l)
  where
    cases : (field a l 1 ≡ 0) ⊎ (field a l 1 ≡ 1) → (field b l 1 ≡ 0) ⊎ (field b l 1 ≡ 1) → has (bit_xor a b) l ≡ not (same (has a l) (has b l))
    cases (inl p) (inl q) = rw (digit_xor a b l, p, q)
    cases (inl p) (inr q) = rw (digit_xor a b l, p, q)
    cases (inr p) (inl q) = rw (digit_xor a b l, p, q)
    cases (inr p) (inr q) = rw (digit_xor a b l, p, q)

-- the lowest bit of every byte
every_lowest : all_below 64 (λ k. same (has 72340172838076673 k) (eqb (k % 8) 0)) ≡ true
unfolding all_below both same has field
every_lowest = refl

same-eq : (a b : Bool) → same a b ≡ true → a ≡ b
unfolding same
same-eq true b e = sym e
same-eq false true e = absurd (clash e refl)
same-eq false false e = refl

pub lowest_has : (k : ℕ) → k < 64 → has 72340172838076673 k ≡ eqb (k % 8) 0
lowest_has k h = same-eq _ _ (all_at 64 _ every_lowest k h)

-- a number below 16 in every byte
every_repeat : all_below 16 (λ u. all_below 64 (λ k. same (has (u * 72340172838076673) k) (has u (k % 8)))) ≡ true
unfolding all_below both same has field
every_repeat = refl

pub repeat_has : (u k : ℕ) → u < 16 → k < 64 → has (u * 72340172838076673) k ≡ has u (k % 8)
repeat_has u k h l = same-eq _ _ (all_at 64 _ (all_at 16 _ every_repeat u h) k l)

-- AppSel is not 0 where one of its bits is 1
pub used-bits : (c : ℕ) → not (eqb (field c 4 4) 0) ≡ either (either (has c 4) (has c 5)) (either (has c 6) (has c 7))
unfolding any_below either has
used-bits c = some_in_lem 4 (field c 4 4) (got_lt c 4 4) ∙ four (has c 4) (has c 5) (has c 6) (has c 7) _ _ _ _ (bit 0 (omega arith)) (bit 1 (omega arith)) (bit 2 (omega arith)) (bit 3 (omega arith))
  where
    bit : (i : ℕ) → i < 4 → has (field c 4 4) i ≡ has c (4 + i)
    bit i l = ap (λ n. eqb n 1) (digit-of-field c 4 4 i l)

    four : (p q r s p' q' r' s' : Bool) → p' ≡ p → q' ≡ q → r' ≡ r → s' ≡ s
        → either (either (either (either false p') q') r') s' ≡ either (either p q) (either r s)
    four true q r s p' q' r' s' a b c d = rw a
    four false true r s p' q' r' s' a b c d = rw (a, b)
    four false false true s p' q' r' s' a b c d = rw (a, b, c)
    four false false false s p' q' r' s' a b c d = rw (a, b, c, d)

-- two DataPathIDs are the same where none of their bits differs
abbrev pub differs : ℕ → ℕ → ℕ → Bool
differs u w i = not (same (has u i) (has w i))

every_id : all_below 8 (λ u. all_below 8 (λ w. same (eqb u w) (not (either (either (differs u w 0) (differs u w 1)) (differs u w 2))))) ≡ true
unfolding all_below both same either has field
every_id = refl

pub same_id : (c d : ℕ) → eqb (field c 1 3) (field d 1 3) ≡ not (either (either (differs c d 1) (differs c d 2)) (differs c d 3))
unfolding has
same_id c d =
    same-eq _ _ (all_at 8 _ (all_at 8 _ every_id (field c 1 3) (got_lt c 1 3)) (field d 1 3) (got_lt d 1 3))
    ∙ ap not (ap₂ either (ap₂ either (bits 0 (omega arith)) (bits 1 (omega arith))) (bits 2 (omega arith)))
  where
    bit : (e i : ℕ) → i < 3 → has (field e 1 3) i ≡ has e (1 + i)
    bit e i l = ap (λ n. eqb n 1) (digit-of-field e 1 3 i l)

    bits : (i : ℕ) → i < 3 → differs (field c 1 3) (field d 1 3) i ≡ differs c d (1 + i)
    bits i l = ap not (ap₂ same (bit c i l) (bit d i l))
