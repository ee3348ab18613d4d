-- The night files print what they should: the checker computes each and compares every printed byte. Assumes nothing.
use lib.Dec.{T}
use Rattle.cases.specs.Computed.{all_hold}
use Rattle.cases_files.specs.Files.{files}

pub files_print : T (all_hold files)
unfolding all_hold
files_print = tt
