use mathlib.Core.Path.{refl}
use Rattle.model.specs.Records.{with_stage}
use Rattle.records.proofs.with_stage.Goals as goal

pub returns : goal.returns
unfolding with_stage
returns c = refl
