-- A read that touches no byte that a read clears: it leaves the image. Assumes nothing.
use mathlib.Core.Path.{◌≡◌, refl, sym, ap, ◌∙◌}
use mathlib.Core.Bool.{Bool, true, false, ◌||◌}
use mathlib.Core.Logic.{inl, inr}
use Prim.Native.Nat.{ℕ, ◌+◌, ◌≤◌, ◌<◌}
use native.Mathlib.Omega.{arith}
use lib.Dec.{leb, ltb}
use borrow.Author.Tests.{leb-true, leb-false, lt-ltb}
use Rattle.bits.specs.Choice.{both, either}
use Rattle.bits.proofs.Loops.{each_skip}
use Rattle.bits.proofs.Tests.{both_l, both_r, both_i, either_l, either_r, either_cases, or_either, clash}
use Rattle.model.specs.Map.{Image, flag_bytes, flag_byte_count, in_ranges, clearing}
use Rattle.model.specs.Access.{cleared_image}

module _ (i n : ℕ) (meets : Bool) (m : meets ≡ both (ltb i (flag_bytes + flag_byte_count)) (ltb flag_bytes (i + n))) (e : (leb i 9 || meets) ≡ false) where
  tests : either (leb i 9) (both (ltb i (flag_bytes + flag_byte_count)) (ltb flag_bytes (i + n))) ≡ false
  tests = ap (either (leb i 9)) (sym m) ∙ sym (or_either (leb i 9) meets) ∙ e

  apart : i < flag_bytes + flag_byte_count → flag_bytes < i + n → ⊥
  apart p q = clash (both_i (lt-ltb i (flag_bytes + flag_byte_count) p) (lt-ltb flag_bytes (i + n) q)) (either_r (leb i 9) _ tests)

  none : (k : ℕ) → k < n → clearing (i + k) ≡ true → ⊥
  unfolding clearing in_ranges
  none k b t =
      let past : 9 < i = leb-false i 9 (either_l (leb i 9) _ tests) in
      elim (either_cases _ _ t) [
        | inl u ↦ (let h : i + k ≤ 9 = leb-true _ _ (both_r _ _ u) in omega arith)
        | inr r ↦ elim (either_cases _ _ r) [
          | inl u ↦ (let l : flag_bytes ≤ i + k = leb-true _ _ (both_l _ _ u) in
              let h : i + k ≤ 665 = leb-true _ _ (both_r _ _ u) in
              apart (omega arith) (omega arith))
          | inr z ↦ clash z refl
        ]
      ]

  pub none_cleared : (x : Image) → x ≡ cleared_image x i n
  unfolding cleared_image
  none_cleared x = sym (each_skip _ _ (λ y. y) n x (λ k y b t. absurd (none k b t)))
