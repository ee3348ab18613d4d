use borrow.Author.Rules.{rules}
use mathlib.Core.Path.{ap, ◌∙◌}
use Rattle.packing.specs.Packing.{record_bytes, is_record}
use Rattle.packing.proofs.Records.{length_record, compared}
use Rattle.packing_records.proofs.is_record.Goals as goal

pub returns : goal.returns
unfolding is_record
returns c =
    let own = c.record_bytes-own.ensures ∙ ap record_bytes c.record_from.ensures in
    c.eq.ensures ∙ rw own (compared _ c.args.bytes (length_record _) (search rules))
