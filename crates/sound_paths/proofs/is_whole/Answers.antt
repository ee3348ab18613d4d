use Rattle.applications.proofs.Laws.{application_in_lem}
use native.Mathlib.Omega.{arith}
use Rattle.sound_paths.proofs.is_whole.Goals as goal

pub returns : goal.returns
returns c = rw (c.fills.ensures, c.look_up-found.ensures, application_in_lem _ c.args.app (omega arith))
