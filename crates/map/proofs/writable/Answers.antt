use mathlib.Core.Path.{◌∙◌}
use Rattle.model.specs.Map.{writable, in_ranges}
use Rattle.map.proofs.Ranges.{first_test, then_test, all_tests, reordered}
use Rattle.map.proofs.writable.Goals as goal

pub returns : goal.returns
unfolding writable in_ranges
returns c = all_tests (then_test (then_test (then_test (then_test (then_test (then_test (then_test (then_test (then_test (then_test (first_test c.on_page.ensures) c.within.ensures) c.within-2.ensures) c.within-3.ensures) c.on_page-2.ensures) c.on_page-3.ensures) c.on_page-4.ensures) c.on_page-5.ensures) c.on_page-6.ensures) c.on_page-7.ensures) c.on_page-8.ensures)
    ∙ reordered _ _ _ _ _ _ _ _ _ _ _
