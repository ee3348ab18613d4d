use borrow.Author.Rules.{rules}
use borrow.Author.Tests.{tests}
use mathlib.Core.Path.{refl, ◌∙◌}
use Rattle.std.proofs.lemmas.Iterator.{YieldsList-from_range}
use Rattle.std.proofs.lemmas.Iterator.Search.{all_from_yields_List}
use Rattle.bits.specs.Choice.{both}
use Rattle.bits.proofs.Chains.{all_range}
use Rattle.model.specs.Map.{staged_set0}
use Rattle.model.specs.View.{view_of}
use Rattle.model.specs.Sound.{lane_sound, on_fits, is_sound}
use Rattle.sound.proofs.is_sound.Goals as goal

pub returns : goal.returns
unfolding is_sound
returns c =
    all_from_yields_List (λ l. both (lane_sound c.args.image.now (view_of staged_set0 c.args.image.now) c.args.w l) (on_fits c.args.image.now c.args.w l)) _ _ _ c.all.ensures.ran (YieldsList-from_range 0 8 8 refl refl) (λ x b q k. search (rules, tests))
    ∙ all_range 8 _
