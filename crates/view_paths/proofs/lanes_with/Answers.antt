use borrow.Author.Rules.{rules}
use mathlib.Core.Path.{ap, ◌∙◌}
use native.Mathlib.Omega.{arith}
use Prim.Native.Nat.{◌-◌}
use lib.Dec.{eqb}
use Rattle.bits.specs.Number.{field}
use Rattle.model.specs.View.{of}
use Rattle.view_paths.proofs.Gathered.{bit-fits, gather_begin, gather_turn, gather_fits}
use Rattle.view_paths.proofs.Lanes.{config_of}
use Rattle.view_paths.proofs.lanes_with.Goals as goal

pub loop-k-init : goal.loop-k-init
loop-k-init c = (search rules, gather_begin _)

pub overflow_mul-found : goal.overflow_mul-found
overflow_mul-found c = let l = c.loop-k in omega (arith, gather_fits _ l.k l.found (omega arith) l.invariant.1)

pub overflow_add-found : goal.overflow_add-found
overflow_add-found c = let l = c.loop-k in
    let a = c.args in
    omega (arith, gather_fits _ l.k l.found (omega arith) l.invariant.1, bit-fits (eqb c.take_field.result a.value))

pub loop-k-preserved : goal.loop-k-preserved
loop-k-preserved c = let l = c.loop-k in
    let a = c.args in
    let config = c.lane_byte-config.ensures ∙ config_of _ _ _ (omega arith) in
    let same = ap (λ k. eqb k a.value) (c.take_field.ensures ∙ ap (λ k. field k a.shift a.width) config) in
    (search rules, gather_turn _ _ _ _ (omega arith) l.invariant.1 same)
