use borrow.Author.Rules.{rules}
use native.Mathlib.Omega.{arith}
use mathlib.Core.Path.{◌≡◌, sym, ◌∙◌}
use Prim.Native.Nat.{◌-◌}
use native.Mathlib.Numerals.{add-one}
use Rattle.bits.proofs.Masks.{next_here, next-step, next-end}
use Rattle.bits_sets.proofs.next_in.Goals as goal

pub returns-then-is_in : goal.returns-then-is_in
returns-then-is_in c = sym (c.loop-lane.invariant.1 ∙ next_here 8 _ _ (omega arith) (sym c.is_in.ensures ∙ c.if-is_in.true))

pub loop-lane-preserved : goal.loop-lane-preserved
loop-lane-preserved c = (search rules, rw add-one (c.loop-lane.invariant.1 ∙ next-step 8 _ _ (omega arith) (sym c.is_in.ensures ∙ c.if-is_in.false)))

pub returns : goal.returns
returns c = let e : c.loop-lane.lane ≡ 8 = omega arith in sym (c.loop-lane.invariant.1 ∙ rw e (next-end 8 _))
