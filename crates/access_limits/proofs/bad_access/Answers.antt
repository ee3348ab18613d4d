use mathlib.Core.Path.{◌≡◌, ◌∙◌}
use mathlib.Core.Bool.{◌||◌}
use Prim.Native.Nat.{◌-◌}
use native.Mathlib.Omega.{arith}
use lib.Dec.{eqb, ltb}
use Rattle.bits.proofs.Tests.{or_either}
use Rattle.model.specs.Access.{half_end, is_bad_access}
use Rattle.map.proofs.Ranges.{either_or}
use Rattle.access_limits.proofs.Halves.{half_holds, past_end}
use Rattle.access_limits.proofs.bad_access.Goals as goal

pub overflow_sub-room : goal.overflow_sub-room
overflow_sub-room c = omega (arith, half_holds c.args.address (omega arith))

pub returns : goal.returns
unfolding is_bad_access
returns c = let a = c.args in
    let e : c.half_end.result ≡ half_end a.address = c.half_end.ensures in
    let p = past_end (half_end a.address) a.address a.count (half_holds a.address (omega arith)) in
    rw e (or_either (eqb a.count 0 || ltb a.limit a.count) (ltb (half_end a.address - a.address) a.count) ∙ either_or (eqb a.count 0) (ltb a.limit a.count) _ ∙ rw p)
