use borrow.Author.Rules.{rules}
use borrow.Author.Tests.{tests}
use mathlib.Core.Bool.{not}
use mathlib.Core.Path.{refl, ◌∙◌}
use lib.Dec.{eqb}
use Rattle.std.proofs.lemmas.Iterator.{YieldsList-from_range}
use Rattle.std.proofs.lemmas.Iterator.Search.{any_from_yields_List}
use Rattle.bits.proofs.Chains.{any_range}
use Rattle.model.specs.Records.{on_at}
use Rattle.flags_shown.proofs.is_any_on.Goals as goal

pub returns : goal.returns
returns c = any_from_yields_List (λ l. not (eqb (on_at c.args.w l) 0)) _ _ _ c.any.ensures.ran (YieldsList-from_range 0 8 8 refl refl) (λ x b q k. search (rules, tests)) ∙ any_range 8 _
