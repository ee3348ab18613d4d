-- The turns of a loop in code that tests each number below a count: whether one passes, whether all pass, which ones pass. Assumes nothing.
use mathlib.Core.Path.{◌≡◌, refl, ap₂, ◌∙◌}
use mathlib.Core.Bool.{Bool, true, false, not, ◌&&◌, ◌||◌}
use Prim.Native.Nat.{ℕ, ◌+◌}
use native.Mathlib.Numerals.{add-one}
use mir.Val.{bool_byte}
use Rattle.bits.specs.Choice.{both, implies}
use Rattle.bits.specs.Loop.{any_below, all_below}
use Rattle.bits.specs.Number.{with_field}
use Rattle.bits.specs.Sets.{has, mask_of}
use Rattle.bits.proofs.Tests.{and_both, or_either, or_implies}

-- whether a number passes
pub any_begin : (p : ℕ → Bool) → false ≡ any_below 0 p
unfolding any_below
any_begin p = refl

pub any_turn : (p : ℕ → Bool) (n : ℕ) (r b : Bool) → r ≡ any_below n p → b ≡ p n → (r || b) ≡ any_below (n + 1) p
unfolding any_below
any_turn p n r b e f = rw (add-one n, or_either, e, f)

-- .. of the lanes of a set
pub some_turn : (g : ℕ) (p : ℕ → Bool) (n : ℕ) (r h b : Bool) → r ≡ any_below n (λ m. both (has g m) (p m)) → h ≡ has g n → b ≡ p n
    → (r || (h && b)) ≡ any_below (n + 1) (λ m. both (has g m) (p m))
some_turn g p n r h b e i f = any_turn (λ m. both (has g m) (p m)) n r (h && b) e (and_both h b ∙ ap₂ both i f)

-- whether all pass
pub all_begin : (p : ℕ → Bool) → true ≡ all_below 0 p
unfolding all_below
all_begin p = refl

pub all_turn : (p : ℕ → Bool) (n : ℕ) (r b : Bool) → r ≡ all_below n p → b ≡ p n → (r && b) ≡ all_below (n + 1) p
unfolding all_below
all_turn p n r b e f = rw (add-one n, and_both, e, f)

-- .. of the lanes of a set
pub every_turn : (g : ℕ) (p : ℕ → Bool) (n : ℕ) (r h b : Bool) → r ≡ all_below n (λ m. implies (has g m) (p m)) → h ≡ has g n → b ≡ p n
    → (r && (not h || b)) ≡ all_below (n + 1) (λ m. implies (has g m) (p m))
every_turn g p n r h b e i f = all_turn (λ m. implies (has g m) (p m)) n r (not h || b) e (or_implies h b ∙ ap₂ implies i f)

-- the lanes that pass
pub mask_begin : (p : ℕ → Bool) → 0 ≡ mask_of 0 p
unfolding mask_of
mask_begin p = refl

pub mask_turn : (p : ℕ → Bool) (n g r : ℕ) (b : Bool) → g ≡ mask_of n p → b ≡ p n → r ≡ with_field g n 1 (bool_byte b) → r ≡ mask_of (n + 1) p
unfolding mask_of
mask_turn p n g r b e f h = rw (add-one n, ← e, ← f) h
