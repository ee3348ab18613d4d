-- Soundness, the six conditions (a) to (f), as a test (01, below the refusal list; 02 Req 02).
use Rattle.std.specs.Prelude.{◌^◌, Bool, true, false, not, List, eqb, leb, ltb, get_or, Option, None, Some}
use Rattle.bits.specs.Choice.{both, either, implies, same}
use Rattle.bits.specs.Loop.{tab, all_below}
use Rattle.bits.specs.Place.{get}
use Rattle.bits.specs.Sets.{Lane, LaneSet, lane_count, has, next_in, first_in, some_in, every_in}
use Rattle.model.specs.Numbers.{Code}
use Rattle.model.specs.Map.{Image, staged_set0, status_at, pending_at, flag_at, lasting_count, lasting_flag, settings, setting_count, setting_widths}
use Rattle.model.specs.Statuses.{in_progress}
use Rattle.model.specs.PathStates.{state_of, resting}
use Rattle.model.specs.Records.{stage_at, on_at, is_in_progress, is_passing, held_in}
use Rattle.model.specs.State.{State}
use Rattle.model.specs.View.{app_sel, path_id, setting_values, View, view_of, of, state_in, application_in, is_used, same_path, path_of, fills}
use Rattle.model.specs.Verdicts.{deactivated}
use Rattle.model.specs.Work.{written_settings, is_release}
use Rattle.model.specs.declared.lane.Settings.{Settings}
use Rattle.model.specs.declared.lane.Trigger.{Trigger}
use Rattle.model.specs.declared.lane.Trigger.TheVariants.{DpInit, Immediate}
use Rattle.model.specs.declared.lane.StagedSet.{StagedSet}
use Rattle.model.specs.declared.lane.StagedSet.TheVariants.{Set0, Set1}
use Rattle.model.specs.declared.lane.Verdict.{Verdict}
use Rattle.model.specs.declared.lane.Verdict.TheVariants.{Pass, Reject}
use Rattle.model.specs.declared.lane.Progress.{Progress}
use Rattle.model.specs.declared.lane.Working.{Working}
use Rattle.model.specs.declared.application.Descriptor.{Descriptor}

-- ---- (a) ConfigStatus is Ch exactly for lanes in progress

unfoldable pub status_tells : Image → Working → Lane → Bool
status_tells x w l = same (eqb (get x (status_at l)) in_progress) (is_in_progress (stage_at w l))

-- ---- (b) lanes of one group agree, the group holds exactly them, and what their records hold is possible

unfoldable pub same_trigger : Trigger → Trigger → Bool
same_trigger DpInit DpInit = true
same_trigger DpInit Immediate = false
same_trigger Immediate DpInit = false
same_trigger Immediate Immediate = true

unfoldable pub same_verdict : Verdict → Verdict → Bool
same_verdict (Pass n) (Pass m) = eqb n m
same_verdict (Pass n) (Reject d) = false
same_verdict (Reject c) (Pass m) = false
same_verdict (Reject c) (Reject d) = eqb c d

unfoldable pub same_set : StagedSet → StagedSet → Bool
same_set Set0 Set0 = true
same_set Set0 Set1 = false
same_set Set1 Set0 = false
same_set Set1 Set1 = true

-- a lane of the group: in progress with the same group, trigger, staged set, verdict and next lane
unfoldable pub agrees : Progress → Option Progress → Bool
agrees p None = false
agrees p (Some q) =
    both (eqb p.group q.group)
    (both (same_trigger p.trigger q.trigger) (both (same_set p.set q.set) (same_verdict p.verdict q.verdict)))

-- held values fit their fields
unfoldable pub settings_fit : Settings → Bool
settings_fit h = all_below setting_count (λ k. ltb (get_or (setting_values h) k 0) (2 ^ get_or setting_widths k 0))

-- a rejection's code is 2 to 7; a pass's next lane is one of the group or the end
unfoldable pub verdict_fits : LaneSet → Verdict → Bool
verdict_fits g (Reject code) = both (leb 2 code) (leb code 7)
verdict_fits g (Pass n) = either (eqb n lane_count) (both (ltb n lane_count) (has g n))

unfoldable pub stage_fits : Working → Lane → Option Progress → Bool
stage_fits w l None = true
stage_fits w l (Some p) =
    both (both (has p.group l) (every_in p.group (λ m. agrees p (stage_at w m))))
    (both (settings_fit p.held) (verdict_fits p.group p.verdict))

-- ---- whole paths, of any settings

-- the lanes that pass the test share lane l's AppSel, not 0, and its DataPathID
unfoldable pub share : List Settings → (Lane → Bool) → Lane → Bool
share settings c l =
    both (is_used (of settings l))
    (all_below lane_count (λ m. implies (c m)
    (both (eqb (app_sel (of settings m)) (app_sel (of settings l))) (eqb (path_id (of settings m)) (path_id (of settings l))))))

-- and their whole path is the set g
unfoldable pub make_path : List (Option Descriptor) → List Settings → (Lane → Bool) → Lane → LaneSet → Bool
make_path applications settings c l g =
    both (share settings c l) (fills (application_in applications (app_sel (of settings l))) (path_id (of settings l)) g)

-- the lanes of a set agree on lane l's state
unfoldable pub agree_on_state : List Code → LaneSet → Lane → Bool
agree_on_state states g l = every_in g (λ m. eqb (state_in states m) (state_in states l))

-- ---- (c) a used lane outside a passing group lies in a whole path whose lanes agree on a state of 1 to 7

unfoldable pub in_whole_path : View → Lane → Bool
in_whole_path v l =
    both (make_path v.applications v.active (same_path v.active l) l (path_of v.active l))
    (both (agree_on_state v.states (path_of v.active l) l)
    (both (leb 1 (state_in v.states l)) (leb (state_in v.states l) 7)))

-- ---- (d) an unused lane outside a passing group is DPDeactivated with nothing pending

unfoldable pub is_at_rest : Image → View → Lane → Bool
is_at_rest x v l = both (eqb (state_in v.states l) deactivated) (eqb (get x (pending_at l)) 0)

unfoldable pub outside_passing : Image → View → Working → Lane → Bool
outside_passing x v w l =
    both (implies (is_used (of v.active l)) (in_whole_path v l)) (implies (not (is_used (of v.active l))) (is_at_rest x v l))

-- ---- (e) a passing group

-- the settings held for all lanes
unfoldable pub held_settings_of : Working → List Settings
held_settings_of w = tab lane_count (λ l. held_in (stage_at w l))

-- it is a release, or its held settings make a whole path of exactly its lanes
unfoldable pub has_purpose : View → Working → LaneSet → Bool
has_purpose v w g = either (is_release w g) (make_path v.applications (held_settings_of w) (has g) (first_in g) g)

-- its lanes agree on state 1, 4 or 7, on 1 for a release
unfoldable pub rests : View → Working → LaneSet → Bool
rests v w g =
    both (agree_on_state v.states g (first_in g))
    (both (resting (state_of (state_in v.states (first_in g))))
    (implies (is_release w g) (eqb (state_in v.states (first_in g)) deactivated)))

unfoldable pub same_settings : Settings → Settings → Bool
same_settings h k = all_below setting_count (λ j. eqb (get_or (setting_values h) j 0) (get_or (setting_values k) j 0))

-- the lanes before the next one hold what the copying writes
unfoldable pub holds_copied : View → Working → LaneSet → Lane → Bool
holds_copied v w g n = every_in g (λ m. implies (ltb m n) (same_settings (of v.active m) (written_settings (held_in (stage_at w m)))))

-- the rest of its lanes
unfoldable pub not_copied : LaneSet → Lane → Lane → Bool
not_copied g n m = both (has g m) (leb n m)

-- they are all unused, or share an AppSel and a DataPathID whose whole path would be the group
unfoldable pub rest_is_whole : View → LaneSet → Lane → Bool
rest_is_whole v g n =
    either (not (some_in g (λ m. both (leb n m) (is_used (of v.active m)))))
    (make_path v.applications v.active (not_copied g n) (next_in lane_count g n) g)

unfoldable pub passing_fits : View → Working → LaneSet → Verdict → Bool
passing_fits v w g (Reject code) = true
passing_fits v w g (Pass n) = both (both (has_purpose v w g) (rests v w g)) (both (holds_copied v w g n) (rest_is_whole v g n))

unfoldable pub group_fits : View → Working → Option Progress → Bool
group_fits v w None = true
group_fits v w (Some p) = passing_fits v w p.group p.verdict

-- ---- (f) a lane's on bits name only flags that can last, and a flag that is on is 1

unfoldable pub on_fits : Image → Working → Lane → Bool
on_fits x w l =
    both (ltb (on_at w l) (2 ^ lasting_count)) (all_below lasting_count (λ k. implies (has (on_at w l) k) (eqb (get x (flag_at (lasting_flag k) l)) 1)))

-- ---- sound: these six, no more

unfoldable pub lane_sound : Image → View → Working → Lane → Bool
lane_sound x v w l =
    both (both (status_tells x w l) (stage_fits w l (stage_at w l)))
    (both (implies (not (is_passing (stage_at w l))) (outside_passing x v w l)) (group_fits v w (stage_at w l)))

unfoldable pub is_sound : State → Bool
is_sound s =
    all_below lane_count (λ l. both (lane_sound s.image (view_of staged_set0 s.image) s.working l) (on_fits s.image s.working l))
