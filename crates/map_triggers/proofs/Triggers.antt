-- The triggers' places: what the code's tests find, and a run of bytes that meets none. Assumes nothing.
use Rattle.std.proofs.Common.{None}
use mathlib.Core.Path.{◌≡◌}
use mathlib.Core.Bool.{false}
use Prim.Native.Nat.{ℕ, ◌+◌, ◌≤◌, ◌<◌}
use native.Mathlib.Omega.{arith}
use lib.Dec.{eqb, leb, ltb}
use borrow.Author.Tests.{ne_eqb, ltb-false, leb-false}
use Rattle.bits.specs.Choice.{pick, both}
use Rattle.bits.proofs.Tests.{split, either_l, either_r}
use Rattle.model.specs.Map.{apply_dpinit0, apply_immediate0, apply_dpinit1, apply_immediate1, find_trigger, trigger_at}
use Rattle.map_triggers.specs.Meets.{meets_triggers}

-- a place that is no trigger's
pub other_place : (i : ℕ) → eqb i apply_dpinit0 ≡ false → eqb i apply_immediate0 ≡ false → eqb i apply_dpinit1 ≡ false → eqb i apply_immediate1 ≡ false
    → trigger_at i ≡ None
unfolding trigger_at find_trigger pick
other_place i a b c d = rw (a, b, c, d, pick)

-- no byte of a run that ends before a or begins after b is one of a to b
misses : (a b i n k c : ℕ) → both (leb i b) (ltb a (i + n)) ≡ false → k < n → a ≤ c → c ≤ b → eqb (i + k) c ≡ false
unfolding both
misses a b i n k c e h l m = split (leb i b)
    (λ t. ne_eqb (i + k) c (omega (arith, ltb-false a (i + n) (rw (t, both) at e))))
    (λ t. ne_eqb (i + k) c (omega (arith, leb-false i b t)))

-- a run that meets no trigger has none
pub clear_place : (i n k : ℕ) → meets_triggers i n ≡ false → k < n → trigger_at (i + k) ≡ None
unfolding meets_triggers
clear_place i n k e h =
    let e0 = either_l _ _ e in
    let e1 = either_r _ _ e in
    other_place (i + k)
    (misses apply_dpinit0 apply_immediate0 i n k apply_dpinit0 e0 h (omega arith) (omega arith))
    (misses apply_dpinit0 apply_immediate0 i n k apply_immediate0 e0 h (omega arith) (omega arith))
    (misses apply_dpinit1 apply_immediate1 i n k apply_dpinit1 e1 h (omega arith) (omega arith))
    (misses apply_dpinit1 apply_immediate1 i n k apply_immediate1 e1 h (omega arith) (omega arith))
