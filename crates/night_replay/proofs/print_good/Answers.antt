use native.Mathlib.Omega.{arith}
use mathlib.Core.Path.{◌≡◌, ◌∙◌}
use lib.ListN.{length}
use Rattle.night_buffers.proofs.Buffers.{gives_none, gives_text}
use Rattle.night_runs.proofs.Good.{good_file_lem}
use Rattle.night_replay.proofs.Files.{prints-night}
use Rattle.night_replay.proofs.print_good.Goals as goal

pub returns-then-out-count : goal.returns-then-out-count
returns-then-out-count c = gives_none c.if-out-count.true

pub records_offset-offset-requires : goal.records_offset-offset-requires
records_offset-offset-requires c = let g = good_file_lem _ _ c.requires in omega (arith, g.whole)

pub start_file_image-requires : goal.start_file_image-requires
start_file_image-requires c = let g = good_file_lem _ _ c.requires in
    let begins = c.records_offset-offset.ensures in
    (begins, omega (arith, begins, g.whole))

pub parts-night-requires : goal.parts-night-requires
parts-night-requires c = let g = good_file_lem _ _ c.requires in rw g.counted g.whole

pub play-n-requires : goal.play-n-requires
play-n-requires c = let g = good_file_lem _ _ c.requires in
    let n : length c.parts-night.result.records.now ≡ c.args.count = c.parts-night.ensures.counted ∙ g.counted in
    (rw n g.few, omega arith)

pub returns : goal.returns
returns c = let night = c.parts-night.ensures in
    gives_text c.if-out-count.false
    (rw (prints-night c.args.file.now c.args.count _ _ c.requires night.named night.counted night.each, ← c.start_file_image.ensures) c.play-n.ensures)
