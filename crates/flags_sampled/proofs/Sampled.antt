-- What is on after a sample: replaced on its lane alone. Assumes nothing.
use mathlib.Core.Path.{◌≡◌, refl, sym, ◌∙◌}
use mathlib.Core.List.{List}
use Prim.Native.Nat.{ℕ, ◌<◌}
use native.Mathlib.Omega.{arith}
use lib.Dec.{eqb}
use lib.ListN.{length, set}
use borrow.Author.Tests.{eqb-true, eq-eqb}
use Rattle.bits.specs.Loop.{each}
use Rattle.bits.specs.Sets.{lane_count}
use Rattle.bits.proofs.Loops.{each_skip, each_hit}
use Rattle.model.specs.Numbers.{OnBits}
use Rattle.model.specs.Map.{Image}
use Rattle.model.specs.Records.{record_at, on_at, with_lanes, with_on}
use Rattle.model.specs.State.{state_with}
use Rattle.model.specs.Flags.{sampled_on, sampled_state}
use Rattle.model.specs.declared.lane.LaneRecord.{LaneRecord}
use Rattle.model.specs.declared.lane.Working.{Working}
use Rattle.flags.specs.Crossing.{crossing}
use Rattle.flags.specs.declared.Crossing.{Crossing}
use Rattle.flags_lasting.proofs.Ons.{turned, ons_loop}
use Rattle.flags_sampled.specs.Beyond.{beyond_on}

-- one lane is a loop that passes over the others
one_lane_lem : (f : ℕ → OnBits → OnBits) (l : ℕ) (rs : List LaneRecord) → l < lane_count → turned f l rs ≡ each (eqb l) (turned f) lane_count rs
one_lane_lem f l rs h =
    sym
    (each_hit (eqb l) (turned f) (λ y. y) l lane_count rs h (eq-eqb l l refl) (λ k y b c t. absurd (omega (arith, eqb-true l k t)))
    ∙ (λ i. turned f l (each_skip (eqb l) (turned f) (λ y. y) l rs (λ k y b t. absurd (omega (arith, eqb-true l k t))) i)))

-- what is on of the lane of a sample
pub sampled_by : (l p : ℕ) (x : Image) (w : Working) (beyond : Crossing) (after : OnBits) → length w.lanes ≡ lane_count → l < lane_count
    → beyond ≡ crossing x p → after ≡ beyond_on beyond (on_at w l)
    → with_lanes w (set w.lanes l (with_on (record_at w l) after)) ≡ (sampled_state l p (state_with x w)).working
unfolding sampled_state sampled_on beyond_on
sampled_by l p x w beyond after e h b a =
    ons_loop (eqb l) (λ k. sampled_on x p) w _ e refl (rw (a, b) (one_lane_lem (λ k. sampled_on x p) l w.lanes h))
