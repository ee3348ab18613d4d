-- The flags that can last: one by one, by their index, those that a condition names, and one of a lane's on bits replaced. Assumes nothing.
use mathlib.Core.Path.{◌≡◌, refl}
use mathlib.Core.Bool.{Bool, true}
use mathlib.Core.List.{[], ◌∷◌}
use mathlib.Core.Logic.{inl, inr, ◌≢◌}
use Prim.Native.Nat.{ℕ, ◌≤◌, ◌<◌}
use native.Mathlib.Omega.{arith}
use borrow.Author.Tests.{leb-true}
use Rattle.bits.specs.Loop.{tab}
use Rattle.bits.specs.Sets.{has}
use Rattle.bits.proofs.Tests.{both_l, both_r, either_cases, clash}
use Rattle.bits.proofs.Masks.{has-put, has-put_other}
use Rattle.model.specs.Map.{in_ranges, lasting_count, lasting_flag, lasting_index}
use Rattle.model.specs.Records.{with_flag_on}
use Rattle.model.specs.Flags.{is_condition_flag}

pub lasting-flags : tab lasting_count lasting_flag ≡ 135 ∷ 136 ∷ 137 ∷ 138 ∷ 147 ∷ 148 ∷ 149 ∷ 150 ∷ 151 ∷ 152 ∷ []
unfolding tab
lasting-flags = refl

-- an index leads back to its flag
pub lasting_index_lem : (k : ℕ) → k < lasting_count → lasting_index (lasting_flag k) ≡ k
lasting_index_lem k h = omega arith

-- a flag that a condition may name is one of them
pub condition-among : (flag : ℕ) → is_condition_flag flag ≡ true
    → (135 ≤ flag) × (flag ≤ 152) × (lasting_index flag < lasting_count) × (lasting_flag (lasting_index flag) ≡ flag)
unfolding is_condition_flag in_ranges
condition-among flag e = elim (either_cases _ _ e) [
  | inl t ↦ (let l : 135 ≤ flag = leb-true _ _ (both_l _ _ t) in let h : flag ≤ 138 = leb-true _ _ (both_r _ _ t) in (omega arith, omega arith, omega arith, omega arith))
  | inr r ↦ elim (either_cases _ _ r) [
    | inl t ↦ (let l : 147 ≤ flag = leb-true _ _ (both_l _ _ t) in let h : flag ≤ 148 = leb-true _ _ (both_r _ _ t) in (omega arith, omega arith, omega arith, omega arith))
    | inr n ↦ absurd (clash n refl)
  ]
]

-- one of a lane's on bits replaced: it is what it was made, and every other is as it was
module _ (k : ℕ) (test : Bool) (bits : ℕ) where
  pub flag_now : has (with_flag_on k test bits) k ≡ test
  unfolding with_flag_on
  flag_now = has-put bits k test

  pub flag_other : (j : ℕ) → j ≢ k → has (with_flag_on k test bits) j ≡ has bits j
  unfolding with_flag_on
  flag_other j d = has-put_other bits k test j d
