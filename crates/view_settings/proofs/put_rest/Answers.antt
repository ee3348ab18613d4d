use Rattle.model.specs.View.{setting_values}
use Rattle.model.specs.Map.{setting_at}
use Rattle.bits.specs.Choice.{only_if}
use Rattle.bits.specs.Loop.{each}
use Rattle.view_settings.specs.Parts.{with_part}
use Rattle.view_settings.proofs.put_rest.Goals as goal

pub returns : goal.returns
unfolding with_part each only_if setting_at setting_values
returns c = cc
