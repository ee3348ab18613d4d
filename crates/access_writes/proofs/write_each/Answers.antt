use mathlib.Core.Path.{◌≡◌, ◌∙◌}
use native.Mathlib.Omega.{arith}
use lib.ListN.{length}
use Rattle.model.specs.State.{state_with}
use Rattle.access_limits.proofs.Halves.{half_ends}
use Rattle.access_writes.proofs.Writing.{left_state, state_left, write_turn, write-end}
use Rattle.access_writes.proofs.write_each.Goals as goal

pub write_byte-next-requires : goal.write_byte-next-requires
write_byte-next-requires c = omega (arith, half_ends c.args.address)

pub loop-i-preserved : goal.loop-i-preserved
loop-i-preserved c = c.loop-i.invariant ∙ write_turn _ _ _ _ _ (omega arith) (left_state c.write_byte-next.ensures)

pub returns : goal.returns
returns c = let a = c.args in
    let e : c.loop-i.i ≡ length a.bytes.now = omega arith in
    state_left ((rw e at c.loop-i.invariant) ∙ write-end a.address a.bytes.now (state_with c.loop-i.image c.loop-i.next))
