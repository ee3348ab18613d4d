-- When a write resets the module, from the code's tests. Assumes nothing.
use mathlib.Core.Path.{◌≡◌}
use mathlib.Core.Bool.{false}
use mathlib.Core.List.{List}
use Prim.Native.Nat.{ℕ, ◌+◌, ◌-◌, ◌≤◌, ◌<◌}
use native.Mathlib.Omega.{arith}
use lib.Dec.{eqb}
use lib.ListN.{get_or}
use borrow.Author.Tests.{lt-ltb, le-ltb, le-leb, lt-leb}
use Rattle.bits.specs.Choice.{both}
use Rattle.bits.specs.Number.{field}
use Rattle.model.specs.Access.{writes, resets}
use Rattle.model.specs.Map.{module_controls, software_reset_bit}

module _ (address : ℕ) (bytes : List ℕ) (n : ℕ) where
  -- it begins after lower 26
  pub reset_past : module_controls < address → resets address bytes n ≡ false
  unfolding resets writes both
  reset_past l = rw (lt-leb address module_controls l)

  -- it ends before lower 26
  pub reset_short : address ≤ module_controls → n ≤ module_controls - address → resets address bytes n ≡ false
  unfolding resets writes both
  reset_short l h = rw (le-leb address module_controls l, le-ltb module_controls (address + n) (omega arith))

  -- it writes lower 26
  pub reset_here : (v : ℕ) → address ≤ module_controls → module_controls - address < n
      → v ≡ field (get_or bytes (module_controls - address) 0) software_reset_bit.shift 1 → resets address bytes n ≡ eqb v 1
  unfolding resets writes both
  reset_here v l h e = rw (le-leb address module_controls l, lt-ltb module_controls (address + n) (omega arith), e)
