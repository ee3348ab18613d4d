-- The copying step, put together from what its parts leave. Assumes nothing.
use Rattle.std.proofs.Common.{Option}
use mathlib.Core.Path.{◌≡◌}
use Prim.Native.Nat.{ℕ, ◌+◌}
use native.Mathlib.Numerals.{add-one}
use Rattle.bits.specs.Sets.{next_in, lane_count}
use Rattle.model.specs.Map.{Image}
use Rattle.model.specs.Records.{stage_at, held_in, advanced_working}
use Rattle.model.specs.Work.{early, written_settings, with_active, copy_lane, copy_next, copied_state}
use Rattle.model.specs.declared.lane.Settings.{Settings}
use Rattle.model.specs.declared.lane.Progress.{Progress}
use Rattle.model.specs.declared.lane.Working.{Working}
use Rattle.contracts.specs.Forms.{IsState}
use Rattle.model.specs.State.{state_with}

-- a lane's settings are written as the copying writes those held
pub copied-from : (x : Image) (s : Option Progress) (n : ℕ) {y : Image} {held put : Settings} → held ≡ held_in s → put ≡ written_settings held → y ≡ with_active put n x
    → y ≡ with_active (written_settings (held_in s)) n x
copied-from x s n h p i = rw (← h, ← p) i

-- then the group's next lane follows
pub copied_by : (x : Image) (w : Working) (g n : ℕ) {y : Image} {v : Working} {next : ℕ} → y ≡ with_active (written_settings (held_in (stage_at w n))) n x
    → next ≡ next_in lane_count g (n + 1) → v ≡ advanced_working w g next → IsState (copied_state early (state_with x w) g n) y v
unfolding copied_state copy_next copy_lane
copied_by x w g n i e a = record { image = i; working = rw (← (add-one n), ← e) a }
