use borrow.Author.Rules.{rules}
use borrow.Author.Tests.{tests}
use mathlib.Core.Bool.{not, ◌&&◌}
use mathlib.Core.Path.{refl, ap, ◌∙◌}
use native.Mathlib.Omega.{arith}
use lib.Dec.{eqb}
use Rattle.std.proofs.lemmas.Iterator.{YieldsList-from_range}
use Rattle.std.proofs.lemmas.Iterator.Search.{all_from_yields_List}
use Rattle.bits.specs.Choice.{both, implies}
use Rattle.bits.specs.Sets.{has}
use Rattle.bits.proofs.Chains.{all_range}
use Rattle.model.specs.Records.{stage_at, held_in}
use Rattle.model.specs.View.{app_sel, path_id}
use Rattle.sound_paths.proofs.Wholes.{share-held_by}
use Rattle.sound_paths.proofs.share_held.Goals as goal

pub returns : goal.returns
returns c =
    let h = c.held_at-own.ensures in
    ap (λ t. not (eqb c.app_sel-app.result 0) && t)
    (all_from_yields_List (λ l. implies (has c.args.set l) (both (eqb (app_sel (held_in (stage_at c.args.w l))) c.app_sel-app.result) (eqb (path_id (held_in (stage_at c.args.w l))) c.path_id-id.result))) _ _ _ c.all.ensures.ran (YieldsList-from_range 0 8 8 refl refl) (λ x b q k. search (rules, tests)) ∙ all_range 8 _)
    ∙ share-held_by _ _ _ _ _ (omega arith) (c.app_sel-app.ensures ∙ ap app_sel h) (c.path_id-id.ensures ∙ ap path_id h)
