-- Sets of bits that lie in ranges of bytes. Assumes nothing.
use mathlib.Core.Path.{◌≡◌}
use mathlib.Core.Bool.{Bool, true}
use mathlib.Core.List.{List}
use mathlib.Core.Logic.{inl, inr}
use Prim.Native.Nat.{ℕ, ◌+◌, ◌-◌, ◌%◌}
use native.Mathlib.Omega.{arith}
use Rattle.bits.specs.declared.Place.{Place}
use Rattle.bits.specs.Place.{covers}
use Rattle.bits.proofs.Tests.{either_cases}
use Rattle.bits.proofs.Places.{covers_in}
use Rattle.model.specs.Map.{Range, range, in_ranges}
use Rattle.laws_frames.proofs.Ranges.{covered_by, covered_in}
use Rattle.laws_step.specs.Changes.{Bits, or_in, in_lanes}
use Rattle.laws_step.proofs.Frames.{lanes_bytes}

-- a set of bits lies in the bytes of the ranges
abbrev pub Within : List Range → Bits → Type 0
Within rs may = (i b : ℕ) → may i b ≡ true → in_ranges rs i ≡ true

module _ (rs : List Range) where
  pub within-place : (p : Place) → in_ranges rs p.byte ≡ true → Within rs (covers p)
  within-place p e i b c = rw (← (covers_in p i b c).here) e

  pub within-lanes : (c : ℕ → Bool) (base w : ℕ) → 8 % w ≡ 0 → covered_by rs (range base (base + w - 1)) ≡ true → Within rs (in_lanes c base w)
  within-lanes c base w d e i b t = let k = lanes_bytes c base w i b d t in covered_in rs (range base (base + w - 1)) i e k.0 (omega arith)

  pub within_or : (p q : Bits) → Within rs p → Within rs q → Within rs (or_in p q)
  unfolding or_in
  within_or p q f g i b t = elim (either_cases (p i b) (q i b) t) [ inl e ↦ f i b e | inr e ↦ g i b e ]
