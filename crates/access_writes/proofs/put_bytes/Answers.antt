use mathlib.Core.Path.{◌≡◌, sym, ◌∙◌}
use Prim.Native.Nat.{◌+◌}
use native.Mathlib.Omega.{arith}
use lib.ListN.{length}
use Rattle.access_writes.proofs.Putting.{put_turn, put-end}
use Rattle.access_writes.proofs.put_bytes.Goals as goal

pub loop-i-preserved : goal.loop-i-preserved
loop-i-preserved c = let a = c.args in
    let l = c.loop-i in
    l.invariant ∙ put_turn a.bytes.now (a.start + (a.offset + l.i)) (a.start + (a.offset + (l.i + 1))) l.i l.image _ (omega arith) (omega arith) c.put_byte.ensures

pub returns : goal.returns
returns c = let a = c.args in
    let e : c.loop-i.i ≡ length a.bytes.now = omega arith in
    sym ((rw e at c.loop-i.invariant) ∙ put-end a.bytes.now _ c.loop-i.image)
