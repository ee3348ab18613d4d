use Rattle.model.specs.File.{record_count}
use Rattle.night_file.proofs.record_count.Goals as goal

pub returns : goal.returns
unfolding record_count
returns c = c.word4.ensures
