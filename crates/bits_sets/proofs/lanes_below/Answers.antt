use borrow.Author.Tests.{lt-ltb}
use native.Mathlib.Omega.{arith}
use mathlib.Core.Path.{ap, ◌∙◌}
use Prim.Native.Nat.{◌-◌}
use Rattle.bits.proofs.Masks.{mask_ext}
use Rattle.bits.proofs.Sets.{below_is}
use Rattle.bits.specs.Sets.{lane_count}
use Rattle.bits_sets.proofs.lanes_below.Goals as goal

pub returns-then-end : goal.returns-then-end
returns-then-end c = below_is lane_count lane_count (omega arith) ∙ mask_ext lane_count _ _ (λ l h. rw (lt-ltb l lane_count h, lt-ltb l c.args.end (omega arith)))

pub returns : goal.returns
returns c = ap (λ k. k - 1) c.pow2.ensures ∙ below_is lane_count _ (omega arith)
