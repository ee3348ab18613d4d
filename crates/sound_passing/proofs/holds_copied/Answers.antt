use borrow.Author.Rules.{rules}
use borrow.Author.Tests.{tests}
use mathlib.Core.Path.{refl, ◌∙◌}
use lib.Dec.{ltb}
use Rattle.std.proofs.lemmas.Iterator.{YieldsList-from_range}
use Rattle.std.proofs.lemmas.Iterator.Search.{all_from_yields_List}
use Rattle.bits.specs.Choice.{implies}
use Rattle.bits.specs.Sets.{has}
use Rattle.bits.proofs.Chains.{all_range}
use Rattle.model.specs.Map.{active_set}
use Rattle.model.specs.Records.{stage_at, held_in}
use Rattle.model.specs.View.{settings_at}
use Rattle.model.specs.Work.{written_settings}
use Rattle.model.specs.Sound.{same_settings}
use Rattle.sound_passing.proofs.Groups.{copied_by}
use Rattle.sound_passing.proofs.holds_copied.Goals as goal

pub returns : goal.returns
returns c =
    all_from_yields_List (λ l. implies (has c.args.group l) (implies (ltb l c.args.n) (same_settings (settings_at active_set c.args.image.now l) (written_settings (held_in (stage_at c.args.w l)))))) _ _ _ c.all.ensures.ran (YieldsList-from_range 0 8 8 refl refl) (λ x b q k. search (rules, tests))
    ∙ all_range 8 _
    ∙ copied_by _ _ _ _
