use native.Mathlib.Omega.{arith}
use mathlib.Core.Path.{ap, ◌∙◌}
use Prim.Native.Nat.{◌+◌, ◌%◌}
use Rattle.pages.proofs.Halves.{place_by, half_fits}
use Rattle.access_writes.proofs.Putting.{plain_by}
use Rattle.access_writes.proofs.is_plain.Goals as goal

pub overflow_add-i : goal.overflow_add-i
overflow_add-i c = let a = c.args in omega (arith, half_fits a.image.now a.address)

pub meets_triggers-requires : goal.meets_triggers-requires
meets_triggers-requires c = let a = c.args in omega (arith, half_fits a.image.now a.address)

pub returns : goal.returns
returns c = let a = c.args in
    plain_by _ _ _ _ c.meets_triggers.ensures (ap (λ t. t + a.address % 128) c.half_start.ensures ∙ place_by a.image.now a.address (omega arith))
