use Rattle.model.specs.Map.{kept, in_ranges}
use Rattle.map.proofs.Ranges.{first_test, then_test, all_tests}
use Rattle.map.proofs.kept.Goals as goal

pub returns : goal.returns
unfolding kept in_ranges
returns c = all_tests (then_test (then_test (then_test (then_test (then_test (first_test c.within.ensures) c.within-2.ensures) c.within-3.ensures) c.on_page.ensures) c.on_page-2.ensures) c.on_page-3.ensures)
