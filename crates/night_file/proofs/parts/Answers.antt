use mathlib.Core.Path.{ap, ◌∙◌, sym}
use Rattle.model.specs.File as file
use Rattle.model.specs.File.{later_editions, edition_among}
use Rattle.night_file.proofs.Cuts.{night_cut}
use Rattle.night_file.proofs.parts.Goals as goal

pub returns : goal.returns
returns c =
    let cut = rw c.unwrap.ensures at c.split_first_chunk.ensures.cases in
    let halves = c.split_at.ensures in
    let chunks = c.as_chunks.ensures in
    let named = c.from.ensures ∙ ap (edition_among later_editions) c.edition_in-edition.ensures in
    let bytes = c.image_bytes.ensures.row ∙ ap (λ (e : file.Edition). e.image_bytes) (sym c.from.ensures) in
    night_cut c.args.file.now _ _ _ _ _ _ _ c.requires cut.0 cut.1 named bytes halves.front halves.back chunks.front chunks.front_len
