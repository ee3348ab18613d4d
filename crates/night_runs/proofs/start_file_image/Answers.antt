use mathlib.Core.Path.{ap, ◌∙◌}
use Rattle.model.specs.Start.{started_state}
use Rattle.night_file.proofs.Images.{part_image, part_fits}
use Rattle.night_runs.proofs.start_file_image.Goals as goal

pub lay_out-requires : goal.lay_out-requires
lay_out-requires c = part_fits c.args.file.now c.args.offset c.requires.0

pub returns : goal.returns
returns c =
    let laid = c.lay_out.ensures ∙ part_image c.args.file.now c.args.offset c.requires.0 in
    c.reset.ensures ∙ ap (λ x. (started_state x).image) laid
