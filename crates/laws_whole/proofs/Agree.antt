-- Lists of bytes that are alike but for excepted bits: what keeps them so, and what is read the same. Assumes nothing.
use mathlib.Core.Path.{◌≡◌}
use mathlib.Core.Bool.{Bool, true, false}
use mathlib.Core.List.{List}
use Prim.Native.Nat.{ℕ, ◌≤◌, ◌<◌}
use native.Mathlib.Omega.{arith}
use lib.ListN.{get_or}
use Rattle.bits.specs.Choice.{both}
use Rattle.bits.specs.Place.{get}
use Rattle.bits.proofs.Tests.{split, clash, both_l, both_r, both_i}
use Rattle.bits.proofs.Places.{get_ext}
use Rattle.bits.proofs.Loops.{any_find, any_none, none_any}
use Rattle.model.specs.Map.{Image, setting_at, active_set, pending_byte}
use Rattle.laws_whole.specs.Whole.{is_active_bit, active_bit_of}
use Rattle.laws_whole.proofs.Area.{place-active, one_owner, owned_here}
use Rattle.laws_frames.proofs.Alike.{alike-byte, alike_weaken}
use Rattle.laws_frames.specs.Alike.{Alike}

-- ---- active-setting bits of some lanes
module _ (c : ℕ → Bool) where
  pub of_none : (i b : ℕ) → ((l : ℕ) → l < 8 → c l ≡ true → is_active_bit l i b ≡ false) → active_bit_of c i b ≡ false
  unfolding active_bit_of
  of_none i b h = none_any 8 (λ l. both (c l) (is_active_bit l i b)) (λ l hl. split (both (c l) (is_active_bit l i b))
      (λ e. absurd (clash (both_r _ _ e) (h l hl (both_l _ _ e)))) (λ e. e))

  pub none_of : (l i b : ℕ) → l < 8 → active_bit_of c i b ≡ false → c l ≡ true → is_active_bit l i b ≡ false
  unfolding active_bit_of
  none_of l i b hl e p = split (is_active_bit l i b)
      (λ o. absurd (clash (both_i p o) (any_none 8 (λ l. both (c l) (is_active_bit l i b)) e l hl))) (λ o. o)

  pub of_find : (i b : ℕ) → active_bit_of c i b ≡ true → (l : ℕ) × (l < 8) × (c l ≡ true) × (is_active_bit l i b ≡ true)
  unfolding active_bit_of
  of_find i b e = let r = any_find 8 (λ l. both (c l) (is_active_bit l i b)) e in (r.0, r.1, both_l _ _ r.2, both_r _ _ r.2)

  of_below : (i b : ℕ) → i < active_set → active_bit_of c i b ≡ false
  of_below i b h = of_none i b (λ l hl p. split (is_active_bit l i b) (λ o. absurd (omega (arith, owned_here l i b hl o))) (λ o. o))

  of_above : (i b : ℕ) → pending_byte ≤ i → active_bit_of c i b ≡ false
  of_above i b h = of_none i b (λ l hl p. split (is_active_bit l i b) (λ o. absurd (omega (arith, owned_here l i b hl o))) (λ o. o))

  -- the bytes beside the active settings are the same
  pub alike_below : (x y : Image) → Alike (active_bit_of c) x y → (i : ℕ) → i < active_set → get_or x i 0 ≡ get_or y i 0
  alike_below x y A i h = alike-byte (active_bit_of c) x y i A (λ b. of_below i b h)

  pub alike_above : (x y : Image) → Alike (active_bit_of c) x y → (i : ℕ) → pending_byte ≤ i → get_or x i 0 ≡ get_or y i 0
  alike_above x y A i h = alike-byte (active_bit_of c) x y i A (λ b. of_above i b h)

  -- so are the settings of a lane that is not meant
  pub alike-setting : (x y : Image) → Alike (active_bit_of c) x y → (k l : ℕ) → k < 8 → l < 8 → c l ≡ false → get x (setting_at active_set k l) ≡ get y (setting_at active_set k l)
  alike-setting x y A k l hk hl n = get_ext x y (setting_at active_set k l) (λ i b q. A.bits i b (of_none i b (λ m hm p. split (is_active_bit m i b)
      (λ o. absurd (clash p (rw (one_owner l m i b hl hm (place-active l i b k hk q) o) at n))) (λ o. o))))

-- more lanes may differ
pub alike-lanes : (c d : ℕ → Bool) (x y : List ℕ) → ((l : ℕ) → l < 8 → c l ≡ true → d l ≡ true) → Alike (active_bit_of c) x y → Alike (active_bit_of d) x y
alike-lanes c d x y h = alike_weaken (active_bit_of c) (active_bit_of d) x y (λ i b e. of_none c i b (λ l hl p. none_of d l i b hl e (h l hl p)))
