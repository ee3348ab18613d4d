-- The bytes of a write, taken one by one. Assumes nothing.
use mathlib.Core.Path.{◌≡◌, refl, ap}
use mathlib.Core.Bool.{true}
use mathlib.Core.List.{List, [], ◌∷◌}
use Prim.Native.Nat.{ℕ, zero, suc, ◌≤◌}
use native.Mathlib.Nat.{le_of_suc-le-suc, not-suc-le-zero}
use lib.ListN.{length, get_or, set, take}
use Rattle.bits.specs.Choice.{pick}
use Rattle.bits.specs.Loop.{each, tab}
use Rattle.bits.proofs.Loops.{set_loop}
use Rattle.model.specs.Access.{write_limit}
use Rattle.door_events.specs.Writes.{held_bytes}

-- the loop leaves the bytes
pub held_loop : (bytes held : List ℕ) → length held ≡ write_limit → each (λ k. true) (λ k h. set h k (get_or bytes k 0)) write_limit held ≡ held_bytes bytes
unfolding held_bytes pick
held_loop bytes held e = set_loop (λ k. true) (λ k. get_or bytes k 0) held write_limit 0 e

-- a list is the front of its table
pub front : (xs : List ℕ) (m : ℕ) → length xs ≤ m → take (length xs) (tab m (λ k. get_or xs k 0)) ≡ xs
unfolding tab
front [] m h = refl
front (x ∷ xs) zero h = absurd (not-suc-le-zero h)
front (x ∷ xs) (suc m) h = ap (λ t. x ∷ t) (front xs m (le_of_suc-le-suc h))
