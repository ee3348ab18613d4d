-- The verdict on a group: the first reason of 01's list that applies (01 "Triggers and verdicts"; 002 section 8.9.3).
use Rattle.std.specs.Prelude.{◌+◌, Bool, false, not, List, eqb, ltb, None, Some, Option}
use Rattle.bits.specs.Choice.{pick, both, either}
use Rattle.bits.specs.Loop.{any_below}
use Rattle.bits.specs.Sets.{LaneSet, lane_count, has, first_in, some_in, within}
use Rattle.model.specs.Numbers.{AppSel, PathId, Code}
use Rattle.model.specs.Map.{settings}
use Rattle.model.specs.Statuses.{rejected, invalid_application, invalid_path, invalid_settings, lanes_in_use, partial_path}
use Rattle.model.specs.PathStates.{code_of, state_of, resting}
use Rattle.model.specs.View.{app_sel, path_id, explicit, Limits, View, of, state_in, application_in, is_used, path_of}
use Rattle.model.specs.declared.lane.Settings.{Settings}
use Rattle.model.specs.declared.lane.Trigger.{Trigger}
use Rattle.model.specs.declared.lane.Trigger.TheVariants.{DpInit, Immediate}
use Rattle.model.specs.declared.lane.Verdict.{Verdict}
use Rattle.model.specs.declared.lane.Verdict.TheVariants.{Pass, Reject}
use Rattle.model.specs.declared.application.Descriptor.{Descriptor}
use Rattle.model.specs.declared.path.PathState.TheVariants.{Deactivated}

abbrev pub deactivated : Code
deactivated = code_of Deactivated

-- the state of a group, which its lanes share
abbrev pub group_state : View → LaneSet → Code
group_state v g = state_in v.states (first_in g)

-- ---- reasons to reject

-- a lane of the group has an AppSel other than a
unfoldable pub other_app_sel : List Settings → LaneSet → AppSel → Bool
other_app_sel settings g a = some_in g (λ m. not (eqb (app_sel (of settings m)) a))

-- bit f clear, f + n above 8, or a lane outside f .. f + n - 1
unfoldable pub misplaced : Descriptor → PathId → LaneSet → Bool
misplaced d f g =
    either (not (has d.firsts f)) (either (ltb lane_count (f + d.count)) (some_in g (λ m. not (within f d.count m))))

-- a lane of f .. f + n - 1 is not in the group
unfoldable pub incomplete : Descriptor → PathId → LaneSet → Bool
incomplete d f g = any_below lane_count (λ m. both (within f d.count m) (not (has g m)))

-- a lane is on an active path whose lanes are not this group
unfoldable pub crossing : List Settings → LaneSet → Bool
crossing active g = some_in g (λ m. both (is_used (of active m)) (not (eqb (path_of active m) g)))

-- ExplicitControl 1 with a setting that the module does not offer
unfoldable pub out_of_limits : Limits → Settings → Bool
out_of_limits limits h =
    both (eqb (explicit h) 1)
    (either (ltb limits.equalizer h.equalizer)
    (either (ltb limits.pre h.pre)
    (either (ltb limits.post h.post)
    (either (ltb 3 h.amplitude) (not (has limits.amplitudes h.amplitude))))))

unfoldable pub unsupported : View → LaneSet → Bool
unsupported v g = some_in g (λ m. out_of_limits v.limits (of v.staged m))

-- ApplyImmediate may change AppSel in DPDeactivated alone
unfoldable pub too_late : Trigger → View → LaneSet → AppSel → Bool
too_late DpInit v g a = false
too_late Immediate v g a = both (not (eqb (group_state v g) deactivated)) (other_app_sel v.active g a)

unfoldable pub wrong_state : Trigger → View → LaneSet → AppSel → Bool
wrong_state t v g a = either (not (resting (state_of (group_state v g)))) (too_late t v g a)

-- ---- the verdicts

abbrev pub passed : LaneSet → Verdict
passed g = Pass (first_in g)

-- for id f and AppSel a, whose descriptor is taken apart
unfoldable pub apply_by : Option Descriptor → Trigger → View → LaneSet → PathId → AppSel → Verdict
apply_by None t v g f a = Reject invalid_application
apply_by (Some d) t v g f a =
    pick (misplaced d f g) (Reject invalid_path)
    (pick (incomplete d f g) (Reject partial_path)
    (pick (crossing v.active g) (Reject lanes_in_use)
    (pick (unsupported v g) (Reject invalid_settings)
    (pick (wrong_state t v g a) (Reject rejected) (passed g)))))

unfoldable pub apply_verdict : Trigger → View → LaneSet → PathId → AppSel → Verdict
apply_verdict t v g f a =
    pick (other_app_sel v.staged g a) (Reject invalid_path) (apply_by (application_in v.applications a) t v g f a)

-- the release of a path: 7 if a lane of it is missing, 6 if it is not deactivated
unfoldable pub path_release : View → LaneSet → Verdict
path_release v g =
    pick (not (eqb (path_of v.active (first_in g)) g)) (Reject partial_path)
    (pick (not (eqb (group_state v g) deactivated)) (Reject lanes_in_use) (passed g))

-- a lane on no path passes
unfoldable pub release_verdict : View → LaneSet → Verdict
release_verdict v g = pick (is_used (of v.active (first_in g))) (path_release v g) (passed g)

unfoldable pub verdict_of : Trigger → View → LaneSet → Verdict
verdict_of t v g =
    pick (is_used (of v.staged (first_in g)))
    (apply_verdict t v g (path_id (of v.staged (first_in g))) (app_sel (of v.staged (first_in g))))
    (release_verdict v g)
