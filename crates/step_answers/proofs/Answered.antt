-- The answer to each kind of event, from the code's tests. Assumes nothing.
use mathlib.Core.Path.{◌≡◌, ap, ◌∙◌}
use mathlib.Core.Bool.{Bool, true, false, not}
use Prim.Native.Nat.{ℕ, ◌≤◌, ◌<◌}
use borrow.Author.Tests.{lt-ltb, le-ltb}
use Rattle.bits.specs.Choice.{both, either}
use Rattle.bits.specs.Sets.{has, mask_of, some_in}
use Rattle.bits.proofs.Loops.{any_ext, none_any}
use Rattle.bits.proofs.Masks.{has-mask}
use Rattle.bits.proofs.Tests.{either_i_l}
use Rattle.model.specs.Map.{Image, active_set}
use Rattle.model.specs.Records.{stage_at, is_in_progress, any_in_progress}
use Rattle.model.specs.View.{of, settings_of, is_used, same_path, path_of}
use Rattle.model.specs.State.{State, state_with}
use Rattle.model.specs.Flags.{is_condition_flag}
use Rattle.model.specs.Access.{is_bad_access, write_limit, read_limit}
use Rattle.model.specs.Refusals.{first_of, no_such_lane, is_busy, is_unused, event_refusals}
use Rattle.model.specs.declared.answer.Answer.TheVariants.{Done, BadAccess, ShortBuffer, NothingOnLane, Busy, NoSuchTarget}
use Rattle.model.specs.declared.event.Call.TheVariants.{Write, Read, Work, Hardware, Condition, Sample, Lasting, Module, Line}
use Rattle.model.specs.declared.lane.Working.{Working}
use Rattle.model.proofs.Refused.{first_here, first_next, first_none}

lane_there : (l : ℕ) → l < 8 → no_such_lane l ≡ false
unfolding no_such_lane
lane_there l h = ap not (lt-ltb l 8 h)

no_lane : (l : ℕ) → 8 ≤ l → no_such_lane l ≡ true
unfolding no_such_lane
no_lane l h = ap not (le-ltb l 8 h)

-- a lane that is in progress is busy
pub busy_own : (x : Image) (w : Working) (l : ℕ) → is_in_progress (stage_at w l) ≡ true → is_busy (state_with x w) l ≡ true
unfolding is_busy
busy_own x w l e = either_i_l _ _ e

-- another is where its path shares a lane with those that are
pub busy_by : (x : Image) (w : Working) (l g b : ℕ) (q : Bool) → is_in_progress (stage_at w l) ≡ false → g ≡ path_of (settings_of active_set x) l
    → b ≡ mask_of 8 (λ m. is_in_progress (stage_at w m)) → q ≡ some_in g (has b) → q ≡ is_busy (state_with x w) l
unfolding is_busy any_in_progress some_in either
busy_by x w l g b q e hg hb hq = rw e (hq ∙ rw (← hg) (any_ext 8 _ _ (λ m d. rw (hb, has-mask 8 (λ k. is_in_progress (stage_at w k)) m d))))

-- an unused one has no path
pub busy_unused : (x : Image) (w : Working) (l : ℕ) → is_in_progress (stage_at w l) ≡ false → is_used (of (settings_of active_set x) l) ≡ false
    → is_busy (state_with x w) l ≡ false
unfolding is_busy any_in_progress either path_of same_path both
busy_unused x w l e u = rw e (none_any 8 _ (λ m d. rw (has-mask 8 (same_path (settings_of active_set x) l) m d, u)))

module _ (room : ℕ) (s : State) (l : ℕ) where
  -- a work step: 8, then 6
  pub work_nowhere : 8 ≤ l → first_of (event_refusals room s (Work l)) ≡ NoSuchTarget
  unfolding event_refusals
  work_nowhere h = first_here _ _ _ (no_lane l h)

  module _ (h : l < 8) where
    pub work-idle : is_in_progress (stage_at s.working l) ≡ false → first_of (event_refusals room s (Work l)) ≡ NothingOnLane
    unfolding event_refusals
    work-idle e = first_next _ _ _ (lane_there l h) ∙ first_here _ _ _ (ap not e)

    pub work_done : is_in_progress (stage_at s.working l) ≡ true → first_of (event_refusals room s (Work l)) ≡ Done
    unfolding event_refusals
    work_done e = first_next _ _ _ (lane_there l h) ∙ first_next _ _ _ (ap not e) ∙ first_none

  -- a hardware event: 8, 7, then 6
  pub hardware_nowhere : 8 ≤ l → first_of (event_refusals room s (Hardware l)) ≡ NoSuchTarget
  unfolding event_refusals
  hardware_nowhere h = first_here _ _ _ (no_lane l h)

  module _ (h : l < 8) where
    pub hardware_busy : is_busy s l ≡ true → first_of (event_refusals room s (Hardware l)) ≡ Busy
    unfolding event_refusals
    hardware_busy e = first_next _ _ _ (lane_there l h) ∙ first_here _ _ _ e

    pub hardware-unused : is_busy s l ≡ false → is_used (of (settings_of active_set s.image) l) ≡ false
        → first_of (event_refusals room s (Hardware l)) ≡ NothingOnLane
    unfolding event_refusals is_unused
    hardware-unused e u = first_next _ _ _ (lane_there l h) ∙ first_next _ _ _ e ∙ first_here _ _ _ (ap not u)

    pub hardware_done : is_busy s l ≡ false → is_used (of (settings_of active_set s.image) l) ≡ true
        → first_of (event_refusals room s (Hardware l)) ≡ Done
    unfolding event_refusals is_unused
    hardware_done e u = first_next _ _ _ (lane_there l h) ∙ first_next _ _ _ e ∙ first_next _ _ _ (ap not u) ∙ first_none

  -- a sample: 8
  pub sample_nowhere : (p : ℕ) → 8 ≤ l → first_of (event_refusals room s (Sample l p)) ≡ NoSuchTarget
  unfolding event_refusals
  sample_nowhere p h = first_here _ _ _ (no_lane l h)

  pub sample_done : (p : ℕ) → l < 8 → first_of (event_refusals room s (Sample l p)) ≡ Done
  unfolding event_refusals
  sample_done p h = first_next _ _ _ (lane_there l h) ∙ first_none

module _ (room : ℕ) (s : State) where
  -- a condition: 8
  pub condition_nowhere : (flag mask : ℕ) → is_condition_flag flag ≡ false → first_of (event_refusals room s (Condition flag mask)) ≡ NoSuchTarget
  unfolding event_refusals
  condition_nowhere flag mask e = first_here _ _ _ (ap not e)

  pub condition_done : (flag mask : ℕ) → is_condition_flag flag ≡ true → first_of (event_refusals room s (Condition flag mask)) ≡ Done
  unfolding event_refusals
  condition_done flag mask e = first_next _ _ _ (ap not e) ∙ first_none

  -- a lasting condition: 8
  pub lasting_nowhere : (flag on off : ℕ) → is_condition_flag flag ≡ false → first_of (event_refusals room s (Lasting flag on off)) ≡ NoSuchTarget
  unfolding event_refusals
  lasting_nowhere flag on off e = first_here _ _ _ (ap not e)

  pub lasting_done : (flag on off : ℕ) → is_condition_flag flag ≡ true → first_of (event_refusals room s (Lasting flag on off)) ≡ Done
  unfolding event_refusals
  lasting_done flag on off e = first_next _ _ _ (ap not e) ∙ first_none

  -- a module event and a line event: none
  pub module_done : first_of (event_refusals room s Module) ≡ Done
  unfolding event_refusals
  module_done = first_none

  pub line_done : (on : Bool) → first_of (event_refusals room s (Line on)) ≡ Done
  unfolding event_refusals
  line_done on = first_none

  -- a write: 4
  pub write_bad : (address count : ℕ) → is_bad_access write_limit address count ≡ true → first_of (event_refusals room s (Write address count)) ≡ BadAccess
  unfolding event_refusals
  write_bad address count e = first_here _ _ _ e

  pub write_done : (address count : ℕ) → is_bad_access write_limit address count ≡ false → first_of (event_refusals room s (Write address count)) ≡ Done
  unfolding event_refusals
  write_done address count e = first_next _ _ _ e ∙ first_none

  -- a read: 4, then 5
  pub read_bad : (address count : ℕ) → is_bad_access read_limit address count ≡ true → first_of (event_refusals room s (Read address count)) ≡ BadAccess
  unfolding event_refusals
  read_bad address count e = first_here _ _ _ e

  pub read_short : (address count : ℕ) → is_bad_access read_limit address count ≡ false → room < count
      → first_of (event_refusals room s (Read address count)) ≡ ShortBuffer
  unfolding event_refusals
  read_short address count e h = first_next _ _ _ e ∙ first_here _ _ _ (lt-ltb room count h)

  pub read_done : (address count : ℕ) → is_bad_access read_limit address count ≡ false → count ≤ room
      → first_of (event_refusals room s (Read address count)) ≡ Done
  unfolding event_refusals
  read_done address count e h = first_next _ _ _ e ∙ first_next _ _ _ (le-ltb room count h) ∙ first_none
