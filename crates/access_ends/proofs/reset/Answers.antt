use mathlib.Core.Path.{ap, ◌∙◌}
use Rattle.model.specs.Records.{with_line}
use Rattle.model.specs.Start.{reset_state}
use Rattle.access_ends.proofs.reset.Goals as goal

pub returns : goal.returns
unfolding reset_state
returns c = record {
  image = c.reset.ensures;
  working = c.with_line.ensures ∙ ap (λ t. with_line t c.args.w.line) c.idle.ensures;
}
