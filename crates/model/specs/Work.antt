-- A work step: what it copies, and how a group closes (01 "Work step").
use Rattle.std.specs.Prelude.{suc, Bool, true, false, not, [], eqb, ltb, get_or, None, Some, Option}
use Rattle.bits.specs.Choice.{pick}
use Rattle.bits.specs.Loop.{each}
use Rattle.bits.specs.Place.{get, put}
use Rattle.bits.specs.Sets.{Lane, LaneSet, lane_count, has, next_in, first_in, some_in}
use Rattle.model.specs.Numbers.{Code}
use Rattle.model.specs.Map.{Image, state_at, active_set, setting_count, setting_at}
use Rattle.model.specs.Statuses.{success}
use Rattle.model.specs.PathStates.{state_of, commissioned}
use Rattle.model.specs.Records.{no_settings, stage_at, held_in, freed_working, advanced_working}
use Rattle.model.specs.State.{State}
use Rattle.model.specs.Registers.{with_status, with_pending}
use Rattle.model.specs.View.{explicit, setting_values, is_used}
use Rattle.model.specs.Effect.{Effect, on_state}
use Rattle.model.specs.declared.lane.Settings.{Settings}
use Rattle.model.specs.declared.lane.Trigger.{Trigger}
use Rattle.model.specs.declared.lane.Trigger.TheVariants.{DpInit, Immediate}
use Rattle.model.specs.declared.lane.Verdict.{Verdict}
use Rattle.model.specs.declared.lane.Verdict.TheVariants.{Pass, Reject}
use Rattle.model.specs.declared.lane.Progress.{Progress}
use Rattle.model.specs.declared.lane.Working.{Working}

-- ---- copying

-- ExplicitControl 0: the module's own settings, bits 1 and nibbles 0
unfoldable pub by_module : Settings → Settings
by_module h = record { config = h.config; adaptive = 1; equalizer = 0; cdr_tx = 1; cdr_rx = 1; pre = 0; post = 0; amplitude = 0 }

-- what copying writes: zeros for a release, the module's own settings with ExplicitControl 0, else what is held
unfoldable pub written_settings : Settings → Settings
written_settings h = pick (is_used h) (pick (eqb (explicit h) 1) h (by_module h)) no_settings

-- every setting of lane l replaced, in the order of the map
unfoldable pub with_active : Settings → Lane → Image → Image
with_active h l x = each (λ k. true) (λ k y. put y (setting_at active_set k l) (get_or (setting_values h) k 0)) setting_count x

unfoldable pub copy_lane : Working → Lane → Image → Image
copy_lane w l x = with_active (written_settings (held_in (stage_at w l))) l x

-- demand 3 compares two runs: early copies each lane at its own step, late copies the whole group at the closing step
pub data Mode : Type 0 where
  early late : Mode

unfoldable pub copy_next : Mode → Working → Lane → Image → Image
copy_next early w n x = copy_lane w n x
copy_next late w n x = x

unfoldable pub copy_group : Mode → Working → LaneSet → Image → Image
copy_group early w g x = x
copy_group late w g x = each (has g) (copy_lane w) lane_count x

-- ---- closing

-- a group whose held AppSels are all 0
unfoldable pub is_release : Working → LaneSet → Bool
is_release w g = not (some_in g (λ m. is_used (held_in (stage_at w m))))

-- a release clears the group's DPInitPending bits; else ApplyDPInit sets them and ApplyImmediate leaves them
unfoldable pub pending_after : Bool → Trigger → LaneSet → Image → Image
pending_after true t g x = with_pending (has g) 0 x
pending_after false DpInit g x = with_pending (has g) 1 x
pending_after false Immediate g x = x

-- the lanes to be commissioned: the group of an ApplyImmediate in DPInitialized or DPActivated, no release
unfoldable pub commission_mask : Bool → Trigger → Image → LaneSet → LaneSet
commission_mask true t x g = 0
commission_mask false DpInit x g = 0
commission_mask false Immediate x g = pick (commissioned (state_of (get x (state_at (first_in g))))) g 0

-- the group closes with a status
unfoldable pub closed_state : Image → Working → LaneSet → Code → State
closed_state x w g code = record { image = with_status (has g) code x; working = freed_working w g }

-- the closing step of a pass
unfoldable pub closing_effect : Mode → State → LaneSet → Trigger → Effect
closing_effect mode s g t =
    record {
      state =
          closed_state (pending_after (is_release s.working g) t g (copy_group mode s.working g s.image)) s.working g success;
      bytes = [];
      mask = commission_mask (is_release s.working g) t s.image g;
    }

-- a step that copies lane n, after which the group's next lane follows
unfoldable pub copied_state : Mode → State → LaneSet → Lane → State
copied_state mode s g n =
    record {
      image = copy_next mode s.working n s.image;
      working = advanced_working s.working g (next_in lane_count g (suc n));
    }

-- ---- a work step on a lane, by its stage

unfoldable pub work_effect_by : Verdict → Mode → State → LaneSet → Trigger → Effect
work_effect_by (Reject code) mode s g t = on_state (closed_state s.image s.working g code)
work_effect_by (Pass n) mode s g t = pick (ltb n lane_count) (on_state (copied_state mode s g n)) (closing_effect mode s g t)

unfoldable pub work_effect_on : Option Progress → Mode → State → Effect
work_effect_on None mode s = on_state s
work_effect_on (Some p) mode s = work_effect_by p.verdict mode s p.group p.trigger

unfoldable pub work_effect : Mode → State → Lane → Effect
work_effect mode s l = work_effect_on (stage_at s.working l) mode s
