use mathlib.Core.Path.{◌≡◌}
use Prim.Native.Nat.{◌+◌}
use lib.ListN.{drop}
use Rattle.access_writes.specs.Puts.{bytes_put}
use Rattle.access_writes.proofs.put_bytes.Given as goal

abbrev pub invariant-loop-i : goal.invariant-loop-i
invariant-loop-i l = bytes_put (l.start + l.offset) l.bytes l.initial.image ≡ bytes_put (l.start + (l.offset + l.i)) (drop l.i l.bytes) l.image
