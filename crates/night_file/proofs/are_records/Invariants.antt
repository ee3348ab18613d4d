use mathlib.Core.Path.{◌≡◌}
use mathlib.Core.Bool.{true}
use mathlib.Core.List.{[]}
use lib.ListN.{get_or}
use Rattle.bits.specs.Loop.{all_below}
use Rattle.model.specs.File.{is_record}
use Rattle.night_records.specs.Edition.{row_of}
use Rattle.night_file.proofs.are_records.Given as goal

abbrev pub invariant-loop-record : goal.invariant-loop-record
invariant-loop-record l = all_below l.record-index (λ k. is_record (row_of l.fn.edition) (get_or l.records k [])) ≡ true
