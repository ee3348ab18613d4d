-- The lanes' records: reading them, replacing their stages, and what is on; and the low-power line beside them (01 "The module we ship", 02 Req 02, Req 04).
use Rattle.std.specs.Prelude.{Bool, true, false, List, get_or, None, Some, Option}
use mir.Val.{bool_byte}
use Rattle.bits.specs.Choice.{pick, both}
use Rattle.bits.specs.Loop.{tab, any_below}
use Rattle.bits.specs.Number.{with_field}
use Rattle.bits.specs.Sets.{Lane, LaneSet, lane_count, has, mask_of}
use Rattle.model.specs.Numbers.{FlagIndex, OnBits}
use Rattle.model.specs.declared.lane.Settings.{Settings}
use Rattle.model.specs.declared.lane.Trigger.{Trigger}
use Rattle.model.specs.declared.lane.StagedSet.{StagedSet}
use Rattle.model.specs.declared.lane.Verdict.{Verdict}
use Rattle.model.specs.declared.lane.Verdict.TheVariants.{Pass, Reject}
use Rattle.model.specs.declared.lane.Progress.{Progress}
use Rattle.model.specs.declared.lane.LaneRecord.{LaneRecord}
use Rattle.model.specs.declared.lane.Working.{Working}

abbrev pub no_settings : Settings
no_settings = record { config = 0; adaptive = 0; equalizer = 0; cdr_tx = 0; cdr_rx = 0; pre = 0; post = 0; amplitude = 0 }

abbrev pub idle_record : LaneRecord
idle_record = record { stage = None; on = 0 }

-- all lanes idle with nothing on, beside the low-power line as it is
abbrev pub idle_with : Bool → Working
idle_with line = record { lanes = tab lane_count (λ l. idle_record); line = line }

-- .. off, as at start
abbrev pub idle_working : Working
idle_working = idle_with false

-- ---- reading

abbrev pub record_at : Working → Lane → LaneRecord
record_at w l = get_or w.lanes l idle_record

abbrev pub stage_at : Working → Lane → Option Progress
stage_at w l = (record_at w l).stage

-- the flags of a lane that are on
abbrev pub on_at : Working → Lane → OnBits
on_at w l = (record_at w l).on

-- the lanes on which a flag is on
unfoldable pub on_lanes : Working → FlagIndex → LaneSet
on_lanes w k = mask_of lane_count (λ l. has (on_at w l) k)

unfoldable pub is_in_progress : Option Progress → Bool
is_in_progress None = false
is_in_progress (Some p) = true

unfoldable pub is_pass : Verdict → Bool
is_pass (Pass n) = true
is_pass (Reject c) = false

-- the lane belongs to a passing group
unfoldable pub is_passing : Option Progress → Bool
is_passing None = false
is_passing (Some p) = is_pass p.verdict

-- the settings that a lane's record holds
unfoldable pub held_in : Option Progress → Settings
held_in None = no_settings
held_in (Some p) = p.held

-- a lane of the set is in progress
unfoldable pub any_in_progress : Working → (Lane → Bool) → Bool
any_in_progress w c = any_below lane_count (λ m. both (c m) (is_in_progress (stage_at w m)))

-- ---- replacing

unfoldable pub with_stage : LaneRecord → Option Progress → LaneRecord
with_stage r s = record { stage = s; on = r.on }

unfoldable pub with_on : LaneRecord → OnBits → LaneRecord
with_on r bits = record { stage = r.stage; on = bits }

abbrev pub with_lanes : Working → List LaneRecord → Working
with_lanes w rs = record { lanes = rs; line = w.line }

-- the low-power line set
abbrev pub with_line : Working → Bool → Working
with_line w on = record { lanes = w.lanes; line = on }

-- every lane's stage replaced
unfoldable pub with_stages : Working → (Lane → Option Progress) → Working
with_stages w f = with_lanes w (tab lane_count (λ l. with_stage (record_at w l) (f l)))

-- what is on replaced on every lane
unfoldable pub with_ons : Working → (Lane → OnBits) → Working
with_ons w f = with_lanes w (tab lane_count (λ l. with_on (record_at w l) (f l)))

-- a flag among them that is on or not
unfoldable pub with_flag_on : FlagIndex → Bool → OnBits → OnBits
with_flag_on k is_on bits = with_field bits k 1 (bool_byte is_on)

-- the group's lanes idle again
unfoldable pub freed_working : Working → LaneSet → Working
freed_working w g = with_stages w (λ l. pick (has g l) None (stage_at w l))

-- the record of an Apply that begins
abbrev pub progress_of : Trigger → StagedSet → LaneSet → Settings → Verdict → Progress
progress_of t set g held v = record { group = g; held = held; trigger = t; set = set; verdict = v }

-- .. with another verdict
abbrev pub progress_with : Progress → Verdict → Progress
progress_with p v = progress_of p.trigger p.set p.group p.held v

-- the stage with another verdict; an idle one stays
unfoldable pub with_verdict : Option Progress → Verdict → Option Progress
with_verdict None v = None
with_verdict (Some p) v = Some (progress_with p v)

-- the group's next lane is n
unfoldable pub advanced_working : Working → LaneSet → Lane → Working
advanced_working w g n = with_stages w (λ l. pick (has g l) (with_verdict (stage_at w l) (Pass n)) (stage_at w l))
