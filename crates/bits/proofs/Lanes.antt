-- Laws of lane fields: where they lie, and that two of them share no bit. Assumes nothing.
use mathlib.Core.Path.{◌≡◌, refl}
use mathlib.Core.Bool.{true}
use mathlib.Core.Logic.{inl, inr, ◌≢◌}
use Prim.Native.Nat.{ℕ, ◌+◌, ◌*◌, ◌/◌, ◌%◌, ◌≤◌, ◌<◌}
use native.Mathlib.Nat.{mod-eq_of_lt, mul-le-mul_right}
use native.Mathlib.Decide.{dec_lt, ℕ_discrete}
use native.Mathlib.Omega.{arith}
use lib.Dec.{eqb, leb, ltb}
use borrow.Author.Tests.{leb-true, ltb-true, eqb-true, le-leb, eq-eqb, ne_eqb}
use Rattle.bits.specs.Choice.{both, implies}
use Rattle.bits.specs.Place.{apart}
use Rattle.bits.specs.Loop.{all_below}
use Rattle.bits.specs.Lane.{lane_field, all_apart}
use Rattle.bits.proofs.Tests.{both_l, both_r, either_cases, either_i_l, either_i_r, implies_use}
use Rattle.bits.proofs.Places.{apart_sym}
use Rattle.bits.proofs.Loops.{all_at}

pub lane-width : (base w lane : ℕ) → (lane_field base w lane).width ≡ w
unfolding lane_field
lane-width base w lane = refl

-- a lower lane's field ends where a higher one's starts, or lower
lower_apart : (base w l m : ℕ) → l < m → apart (lane_field base w l) (lane_field base w m) ≡ true
unfolding apart lane_field
lower_apart base w l m h =
    let e : l * w + w ≤ m * w = omega (arith, mul-le-mul_right w h) in
    elim (ℕ_discrete (base + l * w / 8) (base + m * w / 8)) [
      | no n ↦ either_i_l _ _ (rw (ne_eqb _ _ n))
      | yes q ↦ either_i_r _ _ (either_i_l _ _ (le-leb (w + l * w % 8) (m * w % 8) (omega arith)))
    ]

-- two lanes of one field share no bit, whatever its width
pub lanes-apart : (base w l m : ℕ) → l ≢ m → apart (lane_field base w l) (lane_field base w m) ≡ true
lanes-apart base w l m n = elim (dec_lt l m) [
  | yes h ↦ lower_apart base w l m h
  | no h ↦ apart_sym (lane_field base w m) (lane_field base w l) (lower_apart base w m l (omega arith))
]

-- nor do two fields of a table that passes the test
pub table_apart : (n : ℕ) (base width : ℕ → ℕ) (j l k m : ℕ) → all_apart n base width ≡ true → j < n → l < 8 → k < n → m < 8
    → (j ≡ k → l ≡ m → ⊥) → apart (lane_field (base j) (width j) l) (lane_field (base k) (width k) m) ≡ true
unfolding all_apart
table_apart n base width j l k m a hj hl hk hm d =
    elim (either_cases _ _ (all_at 8 _ (all_at n _ (all_at 8 _ (all_at n _ a j hj) l hl) k hk) m hm)) [
      | inl s ↦ absurd (d (eqb-true j k (both_l _ _ s)) (eqb-true l m (both_r _ _ s)))
      | inr r ↦ r
    ]

-- where 8 is a multiple of the width, the fields of 8 lanes lie in as many bytes as the width, and none passes a byte's end
widths : all_below 9 (λ w. all_below 8 (λ l. implies (eqb (8 % w) 0) (both (ltb (l * w / 8) w) (leb (w + l * w % 8) 8)))) ≡ true
unfolding all_below implies both
widths = refl

pub lane_in : (base w lane : ℕ) → lane < 8 → 8 % w ≡ 0
    → (base ≤ (lane_field base w lane).byte) × ((lane_field base w lane).byte < base + w) × (w + (lane_field base w lane).shift ≤ 8)
unfolding lane_field
lane_in base w lane l e = elim (dec_lt w 9) [
  | yes h ↦ let r = implies_use _ _ (all_at 8 _ (all_at 9 _ widths w h) lane l) (eq-eqb _ _ e) in
      let b : lane * w / 8 < w = ltb-true _ _ (both_l _ _ r) in
      (omega arith, omega arith, leb-true _ _ (both_r _ _ r))
  | no h ↦ let r : 8 % w ≡ 8 = mod-eq_of_lt (omega arith) in absurd (omega arith)
]

-- so a field of 8 lanes that lies in a list is a place to read and write there
pub lane-fits : (base w lane n : ℕ) → base + w ≤ n → lane < 8 → 8 % w ≡ 0
    → ((lane_field base w lane).byte < n) × ((lane_field base w lane).width + (lane_field base w lane).shift ≤ 8)
lane-fits base w lane n f l e = let r = lane_in base w lane l e in (omega arith, rw (lane-width base w lane) r.2)
