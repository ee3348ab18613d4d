use Rattle.model.specs.Map.{in_ranges}
use Rattle.model.specs.Flags.{is_condition_flag}
use Rattle.map.proofs.Ranges.{first_test, then_test, all_tests}
use Rattle.flags.proofs.is_condition_flag.Goals as goal

pub returns : goal.returns
unfolding is_condition_flag in_ranges
returns c = all_tests (then_test (first_test c.within.ensures) c.within-2.ensures)
