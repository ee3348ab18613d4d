-- A loop that sets each byte that is not kept leaves the image that start leaves. Assumes nothing.
use mathlib.Core.Path.{◌≡◌, refl, ◌∙◌}
use mathlib.Core.Bool.{Bool, true, false, not}
use Prim.Native.Nat.{ℕ}
use lib.ListN.{length, set}
use Rattle.bits.specs.Choice.{pick}
use Rattle.bits.specs.Loop.{each}
use Rattle.bits.proofs.Loops.{tab_ext, set_loop}
use Rattle.model.specs.Map.{Image, kept, image_length}
use Rattle.model.specs.Start.{start_value, start_byte, started_state}

pick-not : (b : Bool) (m n : ℕ) → pick (not b) m n ≡ pick b n m
unfolding pick
pick-not true m n = refl
pick-not false m n = refl

pub start_loop : (x : Image) → length x ≡ image_length → each (λ i. not (kept i)) (λ i y. set y i (start_value i)) image_length x ≡ (started_state x).image
unfolding started_state start_byte
start_loop x h = set_loop (λ i. not (kept i)) start_value x image_length 0 h ∙ tab_ext image_length _ _ (λ i l. pick-not (kept i) _ _)
