use borrow.Author.Rules.{rules}
use borrow.Author.Tests.{tests}
use mathlib.Core.Path.{refl, ◌∙◌}
use lib.Dec.{eqb}
use Rattle.std.proofs.lemmas.Iterator.{YieldsList-from_range}
use Rattle.std.proofs.lemmas.Iterator.Search.{all_from_yields_List}
use Rattle.bits.specs.Choice.{implies}
use Rattle.bits.specs.Place.{get}
use Rattle.bits.specs.Sets.{has}
use Rattle.bits.proofs.Chains.{all_range}
use Rattle.model.specs.Map.{flag_at, lasting_count, lasting_flag}
use Rattle.sound.proofs.are_raised.Goals as goal

pub returns : goal.returns
returns c =
    all_from_yields_List (λ k. implies (has c.args.on k) (eqb (get c.args.image.now (flag_at (lasting_flag k) c.args.lane)) 1)) _ _ _ c.all.ensures.ran (YieldsList-from_range 0 lasting_count lasting_count refl refl) (λ x b q k. search (rules, tests))
    ∙ all_range lasting_count _
