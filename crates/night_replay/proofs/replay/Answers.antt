use mathlib.Core.Path.{sym, ◌∙◌}
use Rattle.night_replay.specs.Replay.{room_for}
use Rattle.night_replay.proofs.Files.{prints-refused}
use Rattle.night_replay.proofs.replay.Goals as goal

pub returns-in-Err : goal.returns-in-Err
unfolding room_for
returns-in-Err c = let e = sym c.check.ensures ∙ c.in-Err.is in rw (prints-refused _ _ e, e) c.print_bad.ensures

pub returns-in-Ok : goal.returns-in-Ok
unfolding room_for
returns-in-Ok c = let e = sym c.check.ensures ∙ c.in-Ok.is in rw e c.print_good.ensures
