use native.Mathlib.Omega.{arith}
use mathlib.Core.Path.{refl, sym, ap, ◌∙◌}
use lib.ListN.{get_or}
use Rattle.model.proofs.Editions.{edition-fits}
use Rattle.model.specs.File.{edition_of, record_count, records_offset, is_header, record_limit, is_whole_length}
use Rattle.night_records.proofs.Records.{joined}
use Rattle.night_file.proofs.Checks.{short_frame}
use Rattle.night_file.proofs.Cuts.{front_edition, front_count, front_header}
use Rattle.night_file.proofs.is_framed.Goals as goal

pub returns-in_default : goal.returns-in_default
returns-in_default c = sym (short_frame _ _ c.in_default.ensures.cases)

pub overflow_add-whole : goal.overflow_add-whole
overflow_add-whole c = omega (arith, c.records_offset.ensures, edition-fits (get_or c.in-Some.header.now 2 0))

pub returns : goal.returns
unfolding is_whole_length
returns c =
    let file = c.args.file.now in
    let front = c.in-Some.ensures.cases.same in
    let begun = c.records_offset.ensures ∙ ap (λ header. records_offset (edition_of header)) front ∙ ap records_offset (front_edition file) in
    let counted = c.record_count.ensures ∙ ap record_count front ∙ front_count file in
    rw (← counted, ← begun) (joined (c.is_header.ensures ∙ ap (is_header record_limit) front ∙ front_header file record_limit) refl)
