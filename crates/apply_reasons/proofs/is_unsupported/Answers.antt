use borrow.Author.Rules.{rules}
use borrow.Author.Tests.{tests}
use mathlib.Core.Path.{refl, ◌∙◌}
use Rattle.std.proofs.lemmas.Iterator.{YieldsList-from_range}
use Rattle.std.proofs.lemmas.Iterator.Search.{any_from_yields_List}
use Rattle.bits.specs.Choice.{both}
use Rattle.bits.specs.Sets.{has, some_in}
use Rattle.bits.proofs.Chains.{any_range}
use Rattle.model.specs.View.{of, limits_of, settings_of, view_of}
use Rattle.model.specs.Verdicts.{out_of_limits, unsupported}
use Rattle.apply_reasons.proofs.is_unsupported.Goals as goal

pub returns : goal.returns
unfolding unsupported some_in view_of
returns c =
    any_from_yields_List (λ l. both (has c.args.group l) (out_of_limits (limits_of c.args.image.now) (of (settings_of c.args.base c.args.image.now) l))) _ _ _ c.any.ensures.ran (YieldsList-from_range 0 8 8 refl refl) (λ x b q k. search (rules, tests))
    ∙ any_range 8 _
