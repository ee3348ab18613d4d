-- The closing step, put together from what its parts leave. Assumes nothing.
use mathlib.Core.Path.{◌≡◌}
use mathlib.Core.Bool.{Bool}
use Prim.Native.Nat.{ℕ}
use Rattle.model.specs.Map.{Image}
use Rattle.model.specs.Statuses.{success}
use Rattle.model.specs.Work.{early, copy_group, is_release, pending_after, commission_mask, closed_state, closing_effect}
use Rattle.model.specs.declared.lane.Trigger.{Trigger}
use Rattle.model.specs.declared.lane.Working.{Working}
use Rattle.contracts.specs.Forms.{IsState}
use Rattle.model.specs.State.{state_with}
use Rattle.work_closing.specs.Leaves.{Leaves}

-- closing: the release decides the mask and the pending bits, then the group is closed with success
pub closed_by : (x : Image) (w : Working) (g : ℕ) (t : Trigger) {y z : Image} {v : Working} {mask code : ℕ} {release : Bool} → release ≡ is_release w g
    → mask ≡ commission_mask release t x g → y ≡ pending_after release t g x → code ≡ success → IsState (closed_state y w g code) z v
    → Leaves (closing_effect early (state_with x w) g t) z (record { mask = mask; working = v })
unfolding closing_effect copy_group
closed_by x w g t r m p s l =
    record { image = rw (← r, ← p, ← s) l.image; working = rw (← r, ← p, ← s) l.working; mask = rw (← r) m }
