-- The working state as bytes, for a caller that keeps it in a buffer: sixteen bytes for each lane's record, then one for the low-power line.
use Rattle.std.specs.Prelude.{Bool, not, [], ◌∷◌, ◌+◌, ◌*◌, ◌/◌, ◌%◌, eqb, leb, ltb, length, get_or, None, Some, Option}
use mir.Val.{bool_byte}
use Rattle.bits.specs.Choice.{pick, both}
use Rattle.bits.specs.Loop.{tab, all_below}
use Rattle.bits.specs.Sets.{Lane, lane_count}
use Rattle.model.specs.Numbers.{Byte, Bytes, Count, Index}
use Rattle.model.specs.Records.{record_at}
use Rattle.model.specs.declared.lane.Trigger.{Trigger}
use Rattle.model.specs.declared.lane.Trigger.TheVariants.{DpInit, Immediate}
use Rattle.model.specs.declared.lane.StagedSet.{StagedSet}
use Rattle.model.specs.declared.lane.StagedSet.TheVariants.{Set0, Set1}
use Rattle.model.specs.declared.lane.Verdict.{Verdict}
use Rattle.model.specs.declared.lane.Verdict.TheVariants.{Pass, Reject}
use Rattle.model.specs.declared.lane.Progress.{Progress}
use Rattle.model.specs.declared.lane.LaneRecord.{LaneRecord}
use Rattle.model.specs.declared.lane.Working.{Working}

-- a lane's bytes, and where the line's byte lies behind those of all lanes
abbrev pub record_length : Count
record_length = 16

abbrev pub line_index : Index
line_index = 128

-- all bytes of a state
abbrev pub state_length : Count
state_length = 129

-- ---- to bytes

abbrev pub trigger_byte : Trigger → Byte
trigger_byte DpInit = 0
trigger_byte Immediate = 1

abbrev pub set_byte : StagedSet → Byte
set_byte Set0 = 0
set_byte Set1 = 1

abbrev pub verdict_byte : Verdict → Byte
verdict_byte (Pass n) = 0
verdict_byte (Reject c) = 1

-- the lane to be copied next, or the rejection's code
abbrev pub verdict_number : Verdict → Byte
verdict_number (Pass n) = n
verdict_number (Reject c) = c

-- THE TABLE of a record's bytes. An idle lane's are 0, but for what is on; that stands in the last two, the high byte first
unfoldable pub record_bytes_by : Option Progress → Byte → Byte → Bytes
record_bytes_by None high low = 0 ∷ 0 ∷ 0 ∷ 0 ∷ 0 ∷ 0 ∷ 0 ∷ 0 ∷ 0 ∷ 0 ∷ 0 ∷ 0 ∷ 0 ∷ 0 ∷ high ∷ low ∷ []
record_bytes_by (Some p) high low =
    1 ∷ p.group
    ∷ p.held.config ∷ p.held.adaptive ∷ p.held.equalizer ∷ p.held.cdr_tx ∷ p.held.cdr_rx ∷ p.held.pre ∷ p.held.post ∷ p.held.amplitude
    ∷ trigger_byte p.trigger ∷ set_byte p.set ∷ verdict_byte p.verdict ∷ verdict_number p.verdict ∷ high ∷ low ∷ []

unfoldable pub record_bytes : LaneRecord → Bytes
record_bytes r = record_bytes_by r.stage (r.on / 256) (r.on % 256)

-- byte k of a state
unfoldable pub packed_byte : Working → Index → Byte
packed_byte w k = pick (ltb k line_index) (get_or (record_bytes (record_at w (k / record_length))) (k % record_length) 0) (bool_byte w.line)

-- a state's bytes
unfoldable pub packed : Working → Bytes
packed w = tab state_length (packed_byte w)

-- ---- from bytes

unfoldable pub trigger_of : Byte → Trigger
trigger_of b = pick (eqb b 0) DpInit Immediate

unfoldable pub set_of : Byte → StagedSet
set_of b = pick (eqb b 0) Set0 Set1

unfoldable pub verdict_of : Byte → Byte → Verdict
verdict_of b n = pick (eqb b 0) (Pass n) (Reject n)

unfoldable pub progress_from : Bytes → Progress
progress_from bs =
    record {
      group = get_or bs 1 0;
      held =
          record {
            config = get_or bs 2 0;
            adaptive = get_or bs 3 0;
            equalizer = get_or bs 4 0;
            cdr_tx = get_or bs 5 0;
            cdr_rx = get_or bs 6 0;
            pre = get_or bs 7 0;
            post = get_or bs 8 0;
            amplitude = get_or bs 9 0;
          };
      trigger = trigger_of (get_or bs 10 0);
      set = set_of (get_or bs 11 0);
      verdict = verdict_of (get_or bs 12 0) (get_or bs 13 0);
    }

-- the record that a lane's bytes are read as, whether they are a record's or not
unfoldable pub record_from : Bytes → LaneRecord
record_from bs = record { stage = pick (eqb (get_or bs 0 0) 0) None (Some (progress_from bs)); on = get_or bs 14 0 * 256 + get_or bs 15 0 }

-- a lane's bytes of a state
unfoldable pub lane_bytes : Bytes → Lane → Bytes
lane_bytes state l = tab record_length (λ k. get_or state (l * record_length + k) 0)

-- the working state that a state's bytes are read as
unfoldable pub unpacked : Bytes → Working
unpacked state =
    record { lanes = tab lane_count (λ l. record_from (lane_bytes state l)); line = not (eqb (get_or state line_index 0) 0) }

-- sixteen bytes are sixteen others
unfoldable pub same_bytes : Bytes → Bytes → Bool
same_bytes bs cs = all_below record_length (λ k. eqb (get_or bs k 0) (get_or cs k 0))

-- a lane's bytes are those of the record that they are read as
unfoldable pub is_record : Bytes → Bool
is_record bs = same_bytes (record_bytes (record_from bs)) bs

-- the front of a buffer is a state's bytes: what it is read as has these bytes and no others
unfoldable pub is_packing : Bytes → Bool
is_packing state =
    both (leb state_length (length state)) (both (all_below lane_count (λ l. is_record (lane_bytes state l))) (ltb (get_or state line_index 0) 2))
