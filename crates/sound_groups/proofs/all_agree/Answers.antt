use borrow.Author.Rules.{rules}
use borrow.Author.Tests.{tests}
use mathlib.Core.Path.{refl, ◌∙◌}
use Rattle.std.proofs.lemmas.Iterator.{YieldsList-from_range}
use Rattle.std.proofs.lemmas.Iterator.Search.{all_from_yields_List}
use Rattle.bits.specs.Choice.{implies}
use Rattle.bits.specs.Sets.{has, every_in}
use Rattle.bits.proofs.Chains.{all_range}
use Rattle.model.specs.Records.{stage_at}
use Rattle.model.specs.Sound.{agrees}
use Rattle.sound_groups.proofs.all_agree.Goals as goal

pub returns : goal.returns
unfolding every_in
returns c =
    all_from_yields_List (λ l. implies (has c.args.p.group l) (agrees c.args.p (stage_at c.args.w l))) _ _ _ c.all.ensures.ran (YieldsList-from_range 0 8 8 refl refl) (λ x b q k. search (rules, tests)) ∙ all_range 8 _
