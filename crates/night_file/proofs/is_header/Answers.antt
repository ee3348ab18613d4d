use mathlib.Core.Path.{◌≡◌, refl, ap, ◌∙◌}
use Rattle.model.specs.File.{later_editions, edition_among, edition_of, is_header}
use Rattle.model.specs.File as file
use Prim.Native.Nat.{ℕ}
use Rattle.night_records.proofs.Records.{joined}
use Rattle.night_file.proofs.is_header.Goals as goal

abbrev number : file.Edition → ℕ
number e = e.number

pub returns : goal.returns
unfolding is_header
returns c =
    let named : c.number_of.result ≡ (edition_of c.args.header.now).number =
    c.number_of.ensures ∙ ap number (c.from.ensures ∙ ap (edition_among later_editions) c.edition_in-edition.ensures) in
    rw (← c.record_count-count.ensures, ← c.word4-image_at.ensures, ← c.word4-records_at.ensures, ← c.records_offset-offset.ensures, ← named, ← c.edition_in-edition.ensures)
    (joined (joined refl refl) (joined (joined refl refl) (joined refl (joined refl refl))))
