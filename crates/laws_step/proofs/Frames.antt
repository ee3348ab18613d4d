-- Laws of changes that stay within a set of bits: how they join, what a put changes, and what is read outside the set. Assumes nothing.
use mathlib.Core.Path.{◌≡◌, refl, ap, ◌∙◌}
use mathlib.Core.Bool.{Bool, true, false}
use Prim.Native.Nat.{ℕ, ◌+◌, ◌%◌, ◌^◌, ◌≤◌, ◌<◌}
use native.Mathlib.Nat.{mod-eq_of_lt}
use native.Mathlib.Omega.{arith}
use lib.ListN.{length, get_or, set, length-set}
use lib.Seq.{get_or-set_other}
use Rattle.bits.specs.declared.Place.{Place}
use Rattle.bits.specs.Choice.{only_if, both, either}
use Rattle.bits.specs.Lane.{lane_field}
use Rattle.bits.specs.Loop.{each}
use Rattle.bits.specs.Place.{get, put, digit, covers}
use Rattle.bits.proofs.Tests.{split, clash, both_l, both_r, both_i, either_i_l, either_i_r, pick_true}
use Rattle.bits.proofs.Number.{number_ext}
use Rattle.bits.proofs.Places.{length-put, digit-put-out, covers_in, get_ext}
use Rattle.bits.proofs.Loops.{each_ind, any_one, any_find, get_puts}
use Rattle.bits.proofs.Lanes.{lane_in, lane-width, lanes-apart}
use Rattle.model.specs.Map.{Image}
use Rattle.laws_step.specs.Changes.{Bits, ChangesOnly, or_in, in_lanes}

pub neither : {a b : Bool} → a ≡ false → b ≡ false → either a b ≡ false
unfolding either
neither p q = rw (p, q, either)

-- what passes is not what does not
pub unless : {a : Bool} → (a ≡ true → ⊥) → a ≡ false
unless {a} n = split a (λ e. absurd (n e)) (λ e. e)

module _ (may : Bits) where
  pub keeps_refl : (x : Image) → ChangesOnly may x x
  keeps_refl x = record { size = refl; others = λ i b e. refl }

  pub keeps_put : (x : Image) (p : Place) (v : ℕ) → ((i b : ℕ) → covers p i b ≡ true → may i b ≡ true) → ChangesOnly may x (put x p v)
  keeps_put x p v h =
      record { size = length-put x p v; others = λ i b e. digit-put-out x p v i b (unless (λ c. clash (h i b c) e)) }

  pub keeps_set : (x : Image) (i v : ℕ) → ((b : ℕ) → may i b ≡ true) → ChangesOnly may x (set x i v)
  unfolding digit
  keeps_set x i v h =
      record {
        size = length-set x i v;
        others = λ j b e. rw (get_or-set_other x i j v 0 (λ q. clash (h b) (rw q at e)));
      }

pub keeps_then : {may : Bits} {x y z : Image} → ChangesOnly may x y → ChangesOnly may y z → ChangesOnly may x z
keeps_then p q = record { size = q.size ∙ p.size; others = λ i b e. q.others i b e ∙ p.others i b e }

-- a larger set allows more
pub keeps_more : {p q : Bits} {x y : Image} → ((i b : ℕ) → p i b ≡ true → q i b ≡ true) → ChangesOnly p x y → ChangesOnly q x y
keeps_more h k = record { size = k.size; others = λ i b e. k.others i b (unless (λ c. clash (h i b c) e)) }

pub keeps_left : {p : Bits} (q : Bits) {x y : Image} → ChangesOnly p x y → ChangesOnly (or_in p q) x y
unfolding or_in
keeps_left q k = keeps_more (λ i b. either_i_l _ (q i b)) k

pub keeps_right : (p : Bits) {q : Bits} {x y : Image} → ChangesOnly q x y → ChangesOnly (or_in p q) x y
unfolding or_in
keeps_right p k = keeps_more (λ i b. either_i_r (p i b) _) k

-- a loop, a choice, and a change that is made or not
pub keeps_each : (may : Bits) (c : ℕ → Bool) (f : ℕ → Image → Image) (n : ℕ) (x : Image)
    → ((k : ℕ) (y : Image) → k < n → c k ≡ true → ChangesOnly may y (f k y)) → ChangesOnly may x (each c f n x)
keeps_each may c f n x h = each_ind c f (ChangesOnly may x) n (λ k y l e p. keeps_then p (h k y l e)) x (keeps_refl may x)

pub keeps_only : (may : Bits) (t : Bool) (f : Image → Image) (x : Image) → ChangesOnly may x (f x) → ChangesOnly may x (only_if t f x)
unfolding only_if
keeps_only may true f x p = p
keeps_only may false f x p = keeps_refl may x

-- fields of lanes
pub in_lanes_lem : (c : ℕ → Bool) (base w l i b : ℕ) → l < 8 → c l ≡ true → covers (lane_field base w l) i b ≡ true → in_lanes c base w i b ≡ true
unfolding in_lanes
in_lanes_lem c base w l i b h e k = any_one 8 _ l h (both_i e k)

pub keeps_lanes : (c : ℕ → Bool) (base w : ℕ) (v : ℕ → ℕ) (x : Image)
    → ChangesOnly (in_lanes c base w) x (each c (λ l y. put y (lane_field base w l) (v l)) 8 x)
keeps_lanes c base w v x =
    keeps_each _ c _ 8 x (λ l y h e. keeps_put _ y (lane_field base w l) (v l) (λ i b k. in_lanes_lem c base w l i b h e k))

pub lanes_more : (c d : ℕ → Bool) (base w i b : ℕ) → ((l : ℕ) → l < 8 → c l ≡ true → d l ≡ true) → in_lanes c base w i b ≡ true → in_lanes d base w i b ≡ true
unfolding in_lanes
lanes_more c d base w i b h k =
    let f = any_find 8 (λ l. both (c l) (covers (lane_field base w l) i b)) k in
    any_one 8 _ f.0 f.1 (both_i (h f.0 f.1 (both_l _ _ f.2)) (both_r _ _ f.2))

-- what is written to the lanes that pass the test reads back
pub lanes_written : (c : ℕ → Bool) (base w v : ℕ) (x : Image) (m : ℕ) → base + w ≤ length x → 8 % w ≡ 0 → v < 2 ^ w → m < 8 → c m ≡ true
    → get (each c (λ l y. put y (lane_field base w l) v) 8 x) (lane_field base w m) ≡ v
lanes_written c base w v x m size d f h e =
    get_puts c (lane_field base w) (λ l. v) 8 m x h (omega (arith, lane_in base w m h d)) (λ k b n. lanes-apart base w k m n)
    ∙ pick_true _ _ e ∙ ap (λ k. v % 2 ^ k) (lane-width base w m) ∙ mod-eq_of_lt f

-- they lie in as many bytes as they are wide
pub lanes_bytes : (c : ℕ → Bool) (base w i b : ℕ) → 8 % w ≡ 0 → in_lanes c base w i b ≡ true → (base ≤ i) × (i < base + w)
unfolding in_lanes
lanes_bytes c base w i b e k =
    let f = any_find 8 (λ l. both (c l) (covers (lane_field base w l) i b)) k in
    let r = lane_in base w f.0 f.1 e in
    let q = (covers_in (lane_field base w f.0) i b (both_r _ _ f.2)).here in
    (omega arith, omega arith)

-- outside the set
pub keeps_get : {may : Bits} {x y : Image} → ChangesOnly may x y → (p : Place) → ((i b : ℕ) → covers p i b ≡ true → may i b ≡ false) → get y p ≡ get x p
keeps_get {x = x} {y = y} k p h = get_ext y x p (λ i b c. k.others i b (h i b c))

pub keeps_byte : {may : Bits} {x y : Image} → ChangesOnly may x y → (i : ℕ) → ((b : ℕ) → may i b ≡ false) → get_or y i 0 ≡ get_or x i 0
unfolding digit
keeps_byte {x = x} {y = y} k i h = number_ext (get_or y i 0) (get_or x i 0) (λ b. k.others i b (h b))

pub keeps_lane : {may : Bits} {x y : Image} → ChangesOnly may x y → (base w l : ℕ) → l < 8 → 8 % w ≡ 0
    → ((i b : ℕ) → base ≤ i → i < base + w → may i b ≡ false) → get y (lane_field base w l) ≡ get x (lane_field base w l)
keeps_lane k base w l h e n = keeps_get k (lane_field base w l) (λ i b c.
    let r = lane_in base w l h e in
    let q = (covers_in (lane_field base w l) i b c).here in
    n i b (omega arith) (omega arith))
