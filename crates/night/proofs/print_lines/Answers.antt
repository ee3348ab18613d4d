-- A good file has its whole length: the records begin, and end, within it.
use Rattle.std.proofs.Common.{arith}
use Rattle.night_runs.proofs.Good.{good_file_lem}
use Rattle.night.proofs.print_lines.Goals as goal

pub records_offset-offset-requires : goal.records_offset-offset-requires
records_offset-offset-requires g c = omega (arith, (good_file_lem _ _ c.requires.0).whole)

pub start_file_image-requires : goal.start_file_image-requires
start_file_image-requires g c =
    let begins = c.records_offset-offset.ensures in
    (begins, omega (arith, begins, (good_file_lem _ _ c.requires.0).whole))

pub play_file_run-come-requires : goal.play_file_run-come-requires
play_file_run-come-requires g c =
    let begins = c.records_offset-offset.ensures in (
      begins,
      omega (arith, begins, (good_file_lem _ _ c.requires.0).whole),
      c.loop-next-test.true,
      omega (arith, c.loop-next.auto.out, c.requires.1),
    )
