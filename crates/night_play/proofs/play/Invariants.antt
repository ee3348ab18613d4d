use mathlib.Core.Path.{◌≡◌}
use Prim.Native.Nat.{◌*◌, ◌≤◌}
use Rattle.model.specs.Records.{idle_working}
use Rattle.model.specs.State.{state_with}
use Rattle.night_text.specs.Buffer.{Puts, line_room}
use Rattle.night_records.specs.Edition.{row_of}
use Rattle.night_play.specs.Playing.{state_after, text_after}
use Rattle.night_play.proofs.play.Given as goal

abbrev pub invariant-loop-k : goal.invariant-loop-k
invariant-loop-k l =
    record {
      room : l.reached.at ≤ line_room 4 * l.k;
      state : state_with l.image l.reached.working ≡ state_after (state_with l.initial.image idle_working) (row_of l.night.edition) l.night.records.now l.k;
      text : Puts 0 (text_after (state_with l.initial.image idle_working) (row_of l.night.edition) l.night.records.now l.k) l.initial.out l.out l.reached.at;
    }
