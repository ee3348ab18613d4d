use Rattle.model.specs.Map.{clearing, in_ranges}
use Rattle.map.proofs.Ranges.{first_test, then_test, all_tests}
use Rattle.map.proofs.clearing.Goals as goal

pub returns : goal.returns
unfolding clearing in_ranges
returns c = all_tests (then_test (first_test c.within.ensures) c.on_page.ensures)
