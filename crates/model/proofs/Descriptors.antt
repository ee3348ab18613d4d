-- Where a descriptor lies, by its number. Assumes nothing.
use mathlib.Core.Path.{◌≡◌}
use Prim.Native.Nat.{ℕ, ◌+◌, ◌*◌, ◌-◌, ◌≤◌, ◌<◌}
use borrow.Author.Tests.{lt-ltb, le-ltb}
use Rattle.bits.proofs.Tests.{pick_true, pick-false}
use Rattle.model.specs.Applications.{first_on_page, descriptor_at}

pub in_lower : (a : ℕ) → a < first_on_page → descriptor_at a ≡ 86 + 4 * (a - 1)
unfolding descriptor_at
in_lower a h = pick_true _ _ (lt-ltb a first_on_page h)

pub on_page : (a : ℕ) → first_on_page ≤ a → descriptor_at a ≡ 351 + 4 * (a - 9)
unfolding descriptor_at
on_page a h = pick-false _ _ (le-ltb a first_on_page h)
