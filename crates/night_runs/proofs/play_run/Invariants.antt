use mathlib.Core.Path.{◌≡◌}
use Prim.Native.Nat.{◌-◌, ◌*◌, ◌≤◌}
use lib.ListN.{length}
use Rattle.model.specs.State.{state_with}
use Rattle.night_text.specs.Buffer.{Puts, longest_line}
use Rattle.night_records.specs.Edition.{row_of}
use Rattle.night_runs.specs.Running.{state_from, text_from}
use Rattle.night_runs.proofs.play_run.Given as goal

abbrev pub invariant-loop-k : goal.invariant-loop-k
invariant-loop-k l =
    record {
      fits : l.reached.at ≤ length l.out;
      room : l.reached.at ≤ longest_line * (l.k - l.first);
      state : state_with l.image l.reached.working ≡ state_from (state_with l.initial.image l.initial.reached.working) (row_of l.night.edition) l.night.records.now l.first (l.k - l.first);
      text : Puts 0 (text_from (state_with l.initial.image l.initial.reached.working) (row_of l.night.edition) l.night.records.now l.first (l.k - l.first)) l.initial.out l.out l.reached.at;
    }
