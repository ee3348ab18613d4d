-- The digits of a number of several bytes, the low byte first, are those of its bytes. Assumes nothing.
use mathlib.Core.Path.{◌≡◌, refl, sym, ap, ◌∙◌}
use mathlib.Core.Bool.{Bool}
use mathlib.Core.List.{List}
use Prim.Native.Nat.{ℕ, zero, suc, ◌+◌, ◌*◌, ◌^◌, ◌<◌}
use native.Mathlib.Decide.{dec_lt}
use native.Mathlib.Nat.{mul-le-mul_right}
use native.Mathlib.Omega.{arith}
use lib.ListN.{get_or}
use lib.Pow.{pow-add, shr-shr, high, low}
use Rattle.bits.specs.Choice.{either}
use Rattle.bits.specs.Loop.{any_below}
use Rattle.bits.specs.Number.{field}
use Rattle.bits.specs.Place.{digit}
use Rattle.bits.proofs.Number.{digit-of-field, lowest}
use Rattle.bits.proofs.Places.{Bytes}
use Rattle.bits.proofs.Tests.{either_assoc, either-none}
use Rattle.bits_low.specs.LowFirst.{low_first}

pub low-lt : (n : ℕ) (x : List ℕ) (at : ℕ) → Bytes x → low_first n x at < 2 ^ (8 * n)
unfolding low_first
low-lt zero x at h = omega arith
low-lt (suc n) x at h =
    let e : 8 * suc n ≡ 8 + 8 * n = omega arith in
    let l = mul-le-mul_right {m = get_or x (at + n) 0} {n = 255} (2 ^ (8 * n)) (omega (arith, h (at + n))) in
    rw (e, pow-add 2 8 (8 * n)) (omega (arith, l, low-lt n x at h))

-- the digits below a number's last byte, and those of it
low_part : (a k r c : ℕ) → r < 2 ^ k → c < k → field (a * 2 ^ k + r) c 1 ≡ field r c 1
low_part a k r c h l =
    let e : 0 + c ≡ c = omega arith in
    sym (rw e at (digit-of-field (a * 2 ^ k + r) 0 k c l)) ∙ ap (λ z. field z c 1) (lowest (a * 2 ^ k + r) k ∙ low a k h)

high_part : (a k r b : ℕ) → r < 2 ^ k → field (a * 2 ^ k + r) (k + b) 1 ≡ field a b 1
unfolding field
high_part a k r b h = rw (← (shr-shr (a * 2 ^ k + r) k b), high a k h)

pub low_digit : (n : ℕ) (x : List ℕ) (at j b : ℕ) → Bytes x → j < n → b < 8 → field (low_first n x at) (8 * j + b) 1 ≡ digit x (at + j) b
unfolding low_first digit
low_digit zero x at j b h k l = absurd (omega arith)
low_digit (suc n) x at j b h k l = elim (dec_lt j n) [
  | yes d ↦ low_part (get_or x (at + n) 0) (8 * n) (low_first n x at) (8 * j + b) (low-lt n x at h) (omega arith) ∙ low_digit n x at j b h d l
  | no d ↦ let e : j ≡ n = omega arith in rw e (high_part (get_or x (at + n) 0) (8 * n) (low_first n x at) b (low-lt n x at h))
]

-- a search through m numbers and then k more, and one through the digits of n bytes
pub any_split : (m k : ℕ) (p : ℕ → Bool) → any_below (m + k) p ≡ either (any_below m p) (any_below k (λ i. p (m + i)))
unfolding any_below
any_split m zero p =
    let e : m + 0 ≡ m = omega arith in
    rw e (sym (either-none (any_below m p)))
any_split m (suc k) p =
    let e : m + suc k ≡ suc (m + k) = omega arith in
    rw e (ap (λ t. either t (p (m + k))) (any_split m k p) ∙ either_assoc (any_below m p) (any_below k (λ i. p (m + i))) (p (m + k)))

pub any_bytes : (n : ℕ) (p : ℕ → Bool) → any_below (8 * n) p ≡ any_below n (λ j. any_below 8 (λ b. p (8 * j + b)))
unfolding any_below
any_bytes zero p = refl
any_bytes (suc n) p =
    let e : 8 * suc n ≡ 8 * n + 8 = omega arith in
    rw e (any_split (8 * n) 8 p ∙ ap (λ t. either t (any_below 8 (λ b. p (8 * n + b)))) (any_bytes n p))
