use mathlib.Core.Path.{◌≡◌}
use Prim.Native.Nat.{◌-◌, ◌*◌, ◌≤◌}
use lib.ListN.{length}
use Rattle.model.specs.State.{state_with}
use Rattle.night_text.specs.Buffer.{Puts, longest_line}
use Rattle.night_runs.specs.FileRunning.{file_state_from, file_text_from}
use Rattle.night_runs.proofs.play_file_run.Given as goal

abbrev pub invariant-loop-k : goal.invariant-loop-k
invariant-loop-k l =
    record {
      fits : l.reached.at ≤ length l.out;
      room : l.reached.at ≤ longest_line * (l.k - l.first);
      state : state_with l.image l.reached.working ≡ file_state_from (state_with l.initial.image l.initial.reached.working) l.file l.first (l.k - l.first);
      text : Puts 0 (file_text_from (state_with l.initial.image l.initial.reached.working) l.file l.first (l.k - l.first)) l.initial.out l.out l.reached.at;
    }
