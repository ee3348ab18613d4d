use mathlib.Core.Path.{refl, ◌∙◌}
use native.Mathlib.Omega.{arith}
use Rattle.std.proofs.lemmas.Iterator.{YieldsList-from_range}
use Rattle.std.proofs.lemmas.Iterator.Search.{all_from_yields_List}
use borrow.Author.Rules.{rules}
use borrow.Author.Tests.{tests}
use Rattle.packing.specs.Packing.{lane_bytes, is_record}
use Rattle.packing.proofs.States.{packing_by}
use Rattle.packing_reads.proofs.Every.{all_listed}
use Rattle.packing_reads.proofs.is_packed.Goals as goal

pub returns : goal.returns
returns c =
    let good = all_from_yields_List (λ l. is_record (lane_bytes c.args.state.now l)) _ _ c.all-good.result c.all-good.ensures.ran (YieldsList-from_range 0 8 8 refl refl) (λ x b q k. search (rules, tests)) in
    packing_by c.args.state.now _ (omega arith) (good ∙ all_listed 8 (λ l. is_record (lane_bytes c.args.state.now l)))
