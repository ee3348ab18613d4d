use borrow.Author.Rules.{rules}
use borrow.Author.Tests.{tests}
use mathlib.Core.Bool.{not}
use mathlib.Core.Path.{refl, ap, ◌∙◌}
use Rattle.std.proofs.lemmas.Iterator.{YieldsList-from_range}
use Rattle.std.proofs.lemmas.Iterator.Search.{any_from_yields_List}
use Rattle.bits.specs.Choice.{both}
use Rattle.bits.specs.Sets.{has, some_in}
use Rattle.bits.proofs.Chains.{any_range}
use Rattle.model.specs.Records.{stage_at, held_in}
use Rattle.model.specs.View.{is_used}
use Rattle.model.specs.Work.{is_release}
use Rattle.records.proofs.is_release.Goals as goal

pub returns : goal.returns
unfolding is_release some_in
returns c =
    ap not (any_from_yields_List (λ l. both (has c.args.group l) (is_used (held_in (stage_at c.args.w l)))) _ _ _ c.any.ensures.ran (YieldsList-from_range 0 8 8 refl refl) (λ x b q k. search (rules, tests)) ∙ any_range 8 _)
