-- When a write runs a command, from the code's tests. Assumes nothing.
use mathlib.Core.Path.{◌≡◌}
use mathlib.Core.Bool.{false}
use Prim.Native.Nat.{ℕ, ◌+◌, ◌-◌, ◌≤◌, ◌<◌}
use native.Mathlib.Omega.{arith}
use lib.Dec.{eqb}
use borrow.Author.Tests.{lt-ltb, le-ltb, le-leb, lt-leb}
use Rattle.bits.specs.Choice.{pick, both}
use Rattle.model.specs.Access.{writes, runs_command}
use Rattle.model.specs.Map.{Image, page9_f, run_address}
use Rattle.pages.specs.Halves.{half_start}

module _ (address n : ℕ) (x : Image) where
  -- it begins after 129
  pub run_past : run_address < address → runs_command address n x ≡ false
  unfolding runs_command writes both
  run_past l = rw (lt-leb address run_address l)

  -- it ends before 129
  pub run_short : address ≤ run_address → n ≤ run_address - address → runs_command address n x ≡ false
  unfolding runs_command writes both
  run_short l h = rw (le-leb address run_address l, le-ltb run_address (address + n) (omega arith))

  -- it writes 129
  pub run_here : (start : ℕ) → address ≤ run_address → run_address - address < n → start ≡ half_start x run_address → runs_command address n x ≡ eqb start page9_f
  unfolding runs_command writes both half_start pick
  run_here start l h e = rw (le-leb address run_address l, lt-ltb run_address (address + n) (omega arith), e)
