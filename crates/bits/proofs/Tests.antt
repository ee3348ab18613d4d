-- Bool tests: case analysis, and what the tests of specs/Choice tell. Assumes nothing.
use mathlib.Core.Path.{◌≡◌, refl, sym}
use mathlib.Core.Bool.{Bool, true, false, not, ◌&&◌, ◌||◌}
use mathlib.Core.Logic.{◌⊎◌, inl, inr}
use Prim.Native.Nat.{ℕ}
use native.Mathlib.Decide.{dec_lt, ℕ_discrete}
use native.Mathlib.Omega.{arith}
use lib.Dec.{eqb, leb, ltb}
use borrow.Author.Tests.{eq-eqb, ne_eqb, lt-ltb, le-ltb, le-leb, lt-leb}
use Rattle.bits.specs.Choice.{pick, only_if, both, either, implies}

-- by cases of a test, with the equation in hand
pub split {ℓ} : {P : Type ℓ} (b : Bool) → (b ≡ true → P) → (b ≡ false → P) → P
split true f g = f refl
split false f g = g refl

-- no test has both values
pub clash : {b : Bool} → b ≡ true → b ≡ false → ⊥
clash {b} p q = let z : ◌≡◌ {A = ℕ} 0 1 = cc in omega arith

pub not-not : (a : Bool) → not (not a) ≡ a
not-not true = refl
not-not false = refl

-- two tests that imply each other are the same
pub bool_eq : (a b : Bool) → (a ≡ true → b ≡ true) → (b ≡ true → a ≡ true) → a ≡ b
bool_eq true b f g = sym (f refl)
bool_eq false true f g = g refl
bool_eq false false f g = refl

-- each of both
pub both_l : (a b : Bool) → both a b ≡ true → a ≡ true
unfolding both
both_l true b e = refl
both_l false b e = e

pub both_r : (a b : Bool) → both a b ≡ true → b ≡ true
unfolding both
both_r true b e = e
both_r false b e = absurd (clash e refl)

pub both_i : {a b : Bool} → a ≡ true → b ≡ true → both a b ≡ true
unfolding both
both_i {a} {b} p q = rw (p, q, both)

-- neither of either
pub either_l : (a b : Bool) → either a b ≡ false → a ≡ false
unfolding either
either_l true b e = e
either_l false b e = refl

pub either_r : (a b : Bool) → either a b ≡ false → b ≡ false
unfolding either
either_r true b e = absurd (clash refl e)
either_r false b e = e

pub neither : (a b : Bool) → not (either a b) ≡ both (not a) (not b)
unfolding both either
neither true b = refl
neither false b = refl

-- one of either
pub either_cases : (a b : Bool) → either a b ≡ true → (a ≡ true) ⊎ (b ≡ true)
unfolding either
either_cases true b e = inl refl
either_cases false b e = inr e

pub either_i_l : (a b : Bool) → a ≡ true → either a b ≡ true
unfolding either
either_i_l a b p = rw (p, either)

pub either_i_r : (a b : Bool) → b ≡ true → either a b ≡ true
unfolding either
either_i_r true b p = refl
either_i_r false b p = p

-- an implication, used and made
pub implies_use : (a b : Bool) → implies a b ≡ true → a ≡ true → b ≡ true
unfolding implies
implies_use true b e p = e
implies_use false b e p = absurd (clash p refl)

pub implies_i : (a b : Bool) → (a ≡ true → b ≡ true) → implies a b ≡ true
unfolding implies
implies_i true b f = f refl
implies_i false b f = refl

-- .. it has no exception
pub no_exception : (a b : Bool) → not (both a (not b)) ≡ implies a b
unfolding both implies
no_exception true b = not-not b
no_exception false b = refl

-- a choice, once its test is known
module _ {ℓ} {A : Type ℓ} {b : Bool} where
  pub pick_true : (x y : A) → b ≡ true → pick b x y ≡ x
  unfolding pick
  pick_true x y e = rw (e, pick)

  pub pick-false : (x y : A) → b ≡ false → pick b x y ≡ y
  unfolding pick
  pick-false x y e = rw (e, pick)

  pub only_true : (f : A → A) (x : A) → b ≡ true → only_if b f x ≡ f x
  unfolding only_if
  only_true f x e = rw (e, only_if)

  pub only_false : (f : A → A) (x : A) → b ≡ false → only_if b f x ≡ x
  unfolding only_if
  only_false f x e = rw (e, only_if)

-- what both have, the one that is picked has
pub pick-has : {A : Type 0} (P : A → Type 0) (b : Bool) {x y : A} → (b ≡ true → P x) → (b ≡ false → P y) → P (pick b x y)
unfolding pick
pick-has P true f g = f refl
pick-has P false f g = g refl

-- a choice of tests
pub choose : (t a b : Bool) → either (both b (not t)) (both a t) ≡ pick t a b
unfolding both either pick
choose true true true = refl
choose true true false = refl
choose true false true = refl
choose true false false = refl
choose false true true = refl
choose false true false = refl
choose false false true = refl
choose false false false = refl

pub either-pick : (t b : Bool) → either t b ≡ pick t true b
unfolding either pick
either-pick true b = refl
either-pick false b = refl

pub either_assoc : (a b c : Bool) → either (either a b) c ≡ either a (either b c)
unfolding either
either_assoc true b c = refl
either_assoc false b c = refl

pub either-none : (t : Bool) → either t false ≡ t
unfolding either
either-none true = refl
either-none false = refl

-- the code's `&` and `|`
pub and_both : (a b : Bool) → (a && b) ≡ both a b
unfolding both
and_both true b = refl
and_both false b = refl

-- .. seven in a row
pub and_seven : (a b c d e f g : Bool) → ((((((a && b) && c) && d) && e) && f) && g) ≡ both (both (both (both (both (both a b) c) d) e) f) g
unfolding both
and_seven false b c d e f g = refl
and_seven true false c d e f g = refl
and_seven true true false d e f g = refl
and_seven true true true false e f g = refl
and_seven true true true true false f g = refl
and_seven true true true true true false g = refl
and_seven true true true true true true g = refl

pub or_either : (a b : Bool) → (a || b) ≡ either a b
unfolding either
or_either true b = refl
or_either false b = refl

pub or_implies : (a b : Bool) → (not a || b) ≡ implies a b
unfolding implies
or_implies true b = refl
or_implies false b = refl

pub and_pick : (a b : Bool) → (a && b) ≡ pick a b false
unfolding pick
and_pick true b = refl
and_pick false b = refl

-- numbers compared the other way round
pub eqb_sym : (a b : ℕ) → eqb a b ≡ eqb b a
eqb_sym a b = elim (ℕ_discrete a b) [
  | yes e ↦ rw (eq-eqb a b e, eq-eqb b a (sym e))
  | no e ↦ rw (ne_eqb a b e, ne_eqb b a (λ q. e (sym q)))
]

pub not-ltb : (a b : ℕ) → not (ltb a b) ≡ leb b a
not-ltb a b = elim (dec_lt a b) [
  | yes h ↦ rw (lt-ltb a b h, lt-leb b a h)
  | no h ↦ rw (le-ltb a b (omega arith), le-leb b a (omega arith))
]
