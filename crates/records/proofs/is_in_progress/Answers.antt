use Rattle.std.specs.Prelude.{◌≡◌, refl, Option, None, Some, is_some}
use mathlib.Core.Path.{◌∙◌}
use Rattle.model.specs.declared.lane.Progress.{Progress}
use Rattle.model.specs.Records.{is_in_progress}
use Rattle.records.proofs.is_in_progress.Goals as goal

some_in_progress : (s : Option Progress) → is_some s ≡ is_in_progress s
unfolding is_in_progress
some_in_progress None = refl
some_in_progress (Some p) = refl

pub returns : goal.returns
returns c = c.is_some.ensures ∙ some_in_progress c.args.stage
