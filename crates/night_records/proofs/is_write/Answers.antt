use borrow.Author.Rules.{rules}
use native.Mathlib.Omega.{arith}
use mathlib.Core.Path.{◌≡◌}
use Prim.Native.Nat.{◌+◌, ◌-◌}
use Rattle.model.specs.File.{written_bytes}
use Rattle.night_records.proofs.Records.{tail_below}
use Rattle.night_records.proofs.is_write.Goals as goal

pub returns-then-n-eq0 : goal.returns-then-n-eq0
unfolding written_bytes
returns-then-n-eq0 c = rw (← c.data_bytes-n.ensures.0, c.if-n-eq0.true) c.is_clear_from_3.ensures

pub returns : goal.returns
unfolding written_bytes
returns c = let n = c.data_bytes-n.result in
    let below = tail_below c.args.bytes.now (search rules) (n - 1) in
    let e : 4 + (n - 1) ≡ 3 + n = omega arith in
    rw (← c.data_bytes-n.ensures.0, ← e, c.byte_limit.ensures, c.requires.1) below
