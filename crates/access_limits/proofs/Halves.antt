-- The halves of memory, and what an access that is not bad keeps to. Assumes nothing.
use mathlib.Core.Path.{◌≡◌}
use mathlib.Core.Bool.{false}
use Prim.Native.Nat.{ℕ, ◌+◌, ◌-◌, ◌≤◌, ◌<◌}
use native.Mathlib.Omega.{arith}
use lib.Dec.{ltb}
use borrow.Author.Tests.{ltb-true, ltb-false, lt-ltb}
use Rattle.bits.specs.Choice.{pick}
use Rattle.bits.proofs.Tests.{split, bool_eq, either_l, either_r}
use Rattle.model.specs.Access.{half_end, is_bad_access}

pub half_ends : (address : ℕ) → half_end address ≤ 256
unfolding half_end pick
half_ends address = split (ltb address 128) (λ e. rw (e, pick) (omega arith)) (λ e. rw (e, pick) (omega arith))

pub half_holds : (address : ℕ) → address < 256 → address ≤ half_end address
unfolding half_end pick
half_holds address h = split (ltb address 128) (λ e. rw (e, pick) (omega (arith, ltb-true address 128 e))) (λ e. rw (e, pick) (omega arith))

-- an access that is not bad is one that may be read or written
pub good_access : (limit address n : ℕ) → is_bad_access limit address n ≡ false → (n ≤ limit) × (address + n ≤ half_end address)
unfolding is_bad_access
good_access limit address n e =
    let r = either_r _ _ e in
    (ltb-false limit n (either_l _ _ r), ltb-false (half_end address) (address + n) (either_r _ _ r))

-- more bytes than the half has left: they run past its end
pub past_end : (end address n : ℕ) → address ≤ end → ltb (end - address) n ≡ ltb end (address + n)
past_end end address n h = bool_eq _ _
    (λ e. let l : end - address < n = ltb-true _ _ e in lt-ltb end (address + n) (omega arith))
    (λ e. let l : end < address + n = ltb-true _ _ e in lt-ltb (end - address) n (omega arith))
