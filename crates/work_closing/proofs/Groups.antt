-- Sets of lanes as the closing step tests them. Assumes nothing.
use mathlib.Core.Path.{◌≡◌, refl, sym, ◌∙◌}
use mathlib.Core.Bool.{Bool, true, false}
use Prim.Native.Nat.{ℕ, ◌^◌, ◌≤◌, ◌<◌}
use native.Mathlib.Omega.{arith}
use native.Mathlib.Decide.{dec_lt}
use Rattle.bits.specs.Choice.{pick}
use Rattle.bits.specs.Sets.{next_in}
use Rattle.bits.specs.Place.{get}
use Rattle.model.specs.Map.{Image, state_at}
use Rattle.model.specs.PathStates.{state_of, commissioned}
use Rattle.model.specs.Work.{commission_mask}
use Rattle.model.specs.declared.path.PathState.{PathState}
use Rattle.model.specs.declared.lane.Trigger.TheVariants.{Immediate}
use Rattle.bits.proofs.Masks.{set_ext, has-none, next_skips}

-- a set of a byte with no first lane is empty
pub none_first : (g : ℕ) → g < 2 ^ 8 → 8 ≤ next_in 8 g 0 → g ≡ 0
none_first g b e = set_ext g 0 (λ l. elim (dec_lt l 8) [
  | yes h ↦ next_skips 8 g 0 l (omega arith) (omega arith) ∙ sym (has-none 0 0 l (omega arith) (omega arith))
  | no h ↦ has-none g 8 l b (omega arith) ∙ sym (has-none 0 0 l (omega arith) (omega arith))
])

-- an ApplyImmediate commissions its group by the state of the first lane
pub state_decides : (x : Image) (g : ℕ) {first : ℕ} {state : PathState} {on : Bool} → first ≡ next_in 8 g 0 → state ≡ state_of (get x (state_at first))
    → on ≡ commissioned state → pick on g 0 ≡ commission_mask false Immediate x g
unfolding commission_mask
state_decides x g f s o = rw (← f, ← s, ← o)

-- and an empty group commissions no lane
pub none-commissioned : (x : Image) (g : ℕ) → g < 2 ^ 8 → 8 ≤ next_in 8 g 0 → commission_mask false Immediate x g ≡ 0
unfolding commission_mask pick
none-commissioned x g b e = rw (none_first g b e) (either_way (commissioned (state_of (get x (state_at (next_in 8 0 0))))))
  where
    either_way : (on : Bool) → ◌≡◌ {A = ℕ} (pick on 0 0) 0
    either_way true = refl
    either_way false = refl
