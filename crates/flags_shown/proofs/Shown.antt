-- What shows again after a read: flag by flag, and nothing where no flag byte was read or nothing is on. Assumes nothing.
use mathlib.Core.Path.{◌≡◌, sym, ap, ◌∙◌}
use mathlib.Core.Bool.{false, not}
use Prim.Native.Nat.{ℕ, ◌+◌, ◌<◌}
use native.Mathlib.Omega.{arith}
use lib.Dec.{eqb, ltb}
use borrow.Author.Tests.{not-false, eqb-true, leb-true, ltb-true, lt-ltb}
use Rattle.bits.specs.Lane.{lane_field}
use Rattle.bits.specs.Choice.{both}
use Rattle.bits.specs.Loop.{each, any_below}
use Rattle.bits.specs.Place.{put}
use Rattle.bits.specs.Sets.{lane_count, has}
use Rattle.bits.proofs.Loops.{each_skip, any_none}
use Rattle.bits.proofs.Masks.{has-mask}
use Rattle.bits.proofs.Sets.{has-zero}
use Rattle.bits.proofs.Tests.{both_l, both_r, both_i, clash}
use Rattle.model.specs.Map.{Image, flag_bytes, flag_byte_count, on, page11, lasting_count, lasting_flag}
use Rattle.model.specs.Records.{on_at, on_lanes}
use Rattle.model.specs.Registers.{with_flags}
use Rattle.model.specs.Flags.{is_read, shown_again_image}
use Rattle.model.specs.declared.lane.Working.{Working}

-- one flag
pub flag_shown : (w : Working) (k at lanes : ℕ) (x y : Image) → at ≡ on page11 (lasting_flag k) → lanes ≡ on_lanes w k
    → y ≡ each (has lanes) (λ l z. put z (lane_field at 1 l) 1) lane_count x → y ≡ with_flags (lasting_flag k) (on_lanes w k) x
unfolding with_flags
flag_shown w k at lanes x y p e h = rw (← e, ← p) h

-- a read that touches no flag byte
pub none_read : (w : Working) (i n : ℕ) (x : Image) → both (ltb i (flag_bytes + flag_byte_count)) (ltb flag_bytes (i + n)) ≡ false → x ≡ shown_again_image w i n x
unfolding shown_again_image is_read
none_read w i n x e =
    sym
    (each_skip _ _ (λ y. y) lasting_count x
    (λ k y b t.
    let p : i < flag_bytes + flag_byte_count = omega (arith, leb-true i (on page11 (lasting_flag k)) (both_l _ _ t)) in
    let q : flag_bytes < i + n = omega (arith, ltb-true (on page11 (lasting_flag k)) (i + n) (both_r _ _ t)) in
    absurd (clash (both_i (lt-ltb _ _ p) (lt-ltb _ _ q)) e)))

-- a module on which nothing is on
no_lane-on : (w : Working) (k l : ℕ) → any_below lane_count (λ m. not (eqb (on_at w m) 0)) ≡ false → l < lane_count → has (on_lanes w k) l ≡ false
unfolding on_lanes
no_lane-on w k l e b =
    let none : on_at w l ≡ 0 = eqb-true _ _ (not-false _ (any_none lane_count _ e l b)) in
    has-mask lane_count _ l b ∙ ap (λ on. has on k) none ∙ has-zero k

pub none-on : (w : Working) (i n : ℕ) (x : Image) → any_below lane_count (λ m. not (eqb (on_at w m) 0)) ≡ false → x ≡ shown_again_image w i n x
unfolding shown_again_image with_flags
none-on w i n x e =
    sym (each_skip _ _ (λ y. y) lasting_count x (λ k y b t. each_skip _ _ (λ z. z) lane_count y (λ l z c u. absurd (clash u (no_lane-on w k l e c)))))
