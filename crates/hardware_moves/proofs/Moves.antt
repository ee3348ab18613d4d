-- What entering a state and a hardware event leave, step by step. Assumes nothing.
use mathlib.Core.Path.{◌≡◌}
use mathlib.Core.Bool.{Bool}
use Prim.Native.Nat.{ℕ}
use Rattle.bits.specs.Choice.{only_if}
use Rattle.bits.specs.Lane.{lane_field}
use Rattle.bits.specs.Loop.{each}
use Rattle.bits.specs.Place.{get, put}
use Rattle.bits.specs.Sets.{has}
use Rattle.model.specs.Map.{Image, state_at, state_changed_flag, state_bytes}
use Rattle.model.specs.PathStates.{code_of, state_of, resting}
use Rattle.model.specs.Registers.{with_pending, with_path_state, with_flags}
use Rattle.model.specs.Hardware.{signals_of, next_state, is_initialized, entered_image, moved_image, moved_path_image}
use Rattle.model.specs.declared.path.PathState.{PathState}
use Rattle.model.specs.declared.path.Signals.{Signals}

pub entered_by : (g v : ℕ) (from to : PathState) (x x₁ x₂ x₃ : Image) → v ≡ code_of to → x₁ ≡ each (has g) (λ l y. put y (lane_field state_bytes 4 l) v) 8 x
    → x₂ ≡ only_if (is_initialized from to) (with_pending (has g) 0) x₁ → x₃ ≡ only_if (resting to) (with_flags state_changed_flag g) x₂ → x₃ ≡ entered_image g from to x
unfolding entered_image with_path_state
entered_by g v from to x x₁ x₂ x₃ p q r s = rw (s, r, q, p)

pub moved_by : (down : Bool) (l g n : ℕ) (from to : PathState) (by : Signals) (x y : Image) → n ≡ get x (state_at l) → from ≡ state_of n
    → by ≡ signals_of down x g → to ≡ next_state from by → y ≡ moved_image g from to x → y ≡ moved_path_image down x g (state_of (get x (state_at l)))
unfolding moved_path_image
moved_by down l g n from to by x y hn hf hb ht hy = rw (hy, ht, hb, hf, hn)
