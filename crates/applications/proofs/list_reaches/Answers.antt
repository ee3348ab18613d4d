use borrow.Author.Rules.{rules}
use borrow.Author.Tests.{tests}
use native.Mathlib.Omega.{arith}
use mathlib.Core.Bool.{not}
use mathlib.Core.Path.{refl, ◌∙◌}
use Prim.Native.Nat.{◌+◌}
use lib.Dec.{eqb}
use lib.ListN.{get_or}
use Rattle.std.proofs.lemmas.Iterator.{YieldsList-from_range}
use Rattle.std.proofs.lemmas.Iterator.Search.{all_from_yields_List}
use Rattle.bits.proofs.Chains.{all_range}
use Rattle.model.specs.Applications.{descriptor_at, list_reaches}
use Rattle.applications.proofs.list_reaches.Goals as goal

pub returns : goal.returns
unfolding list_reaches
returns c =
    all_from_yields_List (λ n. not (eqb (get_or c.args.image.now (descriptor_at (n + 1)) 0) 255)) _ _ _ c.all.ensures.ran (YieldsList-from_range 0 c.args.app c.args.app refl (omega arith)) (λ x b q k. search (rules, tests))
    ∙ all_range c.args.app _
