use Rattle.apply_plans.specs.Plans.{found_for}
use Rattle.apply_plans.proofs.find_anew.Goals as goal

pub returns : goal.returns
unfolding found_for
returns c = rw c.group_of-group.ensures at c.judged.ensures
