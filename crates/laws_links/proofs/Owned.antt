-- Whose bits are whose: a bit is of one lane at most. Assumes nothing.
use mathlib.Core.Path.{◌≡◌, refl, sym, ap, ◌∙◌}
use mathlib.Core.Bool.{Bool, true, false, not}
use mathlib.Core.Logic.{◌≢◌}
use Prim.Native.Nat.{ℕ, ◌%◌, ◌≤◌, ◌<◌}
use native.Mathlib.Omega.{arith}
use lib.Dec.{eqb, leb, ltb}
use borrow.Author.Tests.{eqb-true, leb-true, ltb-true, le-leb, not-false}
use Rattle.bits.specs.Choice.{both, either, implies}
use Rattle.bits.specs.Lane.{lane_field}
use Rattle.bits.specs.Loop.{Among, any_of, all_below}
use Rattle.bits.specs.Place.{covers}
use Rattle.bits.specs.Sets.{has}
use Rattle.bits.proofs.Tests.{split, clash, both_l, both_r, both_i, either_l, either_i_l, either_i_r, implies_use}
use Rattle.bits.proofs.Members.{any_of_i, any_of_find, any_of-none}
use Rattle.bits.proofs.Loops.{any_one, none_any, all_at}
use Rattle.bits.proofs.Lanes.{lane-width, lane_in}
use Rattle.bits.proofs.Places.{covers_in}
use Rattle.model.specs.Map.{page10, page9_f, module_state}
use Rattle.laws_links.specs.Links.{LaneRegisters, lane_registers, lies, lane_of, belongs, inside, is_shared, unsaid}

-- ---- one owner

same : LaneRegisters → LaneRegisters → Bool
same r q = both (eqb r.from q.from) (eqb r.width q.width)

meets : LaneRegisters → LaneRegisters → Bool
meets r q = both (leb r.from q.to) (leb q.from r.to)

-- no two rows share a byte: computed
rows_apart : any_of lane_registers (λ r. any_of lane_registers (λ q. both (meets r q) (not (same r q)))) ≡ false
unfolding any_of either both meets same
rows_apart = refl

one_row : (r q : LaneRegisters) (i b : ℕ) → Among r lane_registers → Among q lane_registers → lies r i ≡ true → lies q i ≡ true → lane_of r i b ≡ lane_of q i b
unfolding lies lane_of meets same
one_row r q i b m n e f =
    let t = any_of-none (λ q. both (meets r q) (not (same r q))) lane_registers q (any_of-none _ lane_registers r rows_apart m) n in
    let a : r.from ≤ i = leb-true _ _ (both_l _ _ e) in
    let c : i ≤ r.to = leb-true _ _ (both_r _ _ e) in
    let d : q.from ≤ i = leb-true _ _ (both_l _ _ f) in
    let h : i ≤ q.to = leb-true _ _ (both_r _ _ f) in
    let over : both (leb r.from q.to) (leb q.from r.to) ≡ true = both_i (le-leb r.from q.to (omega arith)) (le-leb q.from r.to (omega arith)) in
    split (both (eqb r.from q.from) (eqb r.width q.width))
    (λ s. rw (eqb-true r.from q.from (both_l _ _ s), eqb-true r.width q.width (both_r _ _ s)))
    (λ s. absurd (clash (both_i over (ap not s)) t))

-- so a bit is of one lane at most
pub one_owner : (l m i b : ℕ) → belongs l i b ≡ true → belongs m i b ≡ true → l ≡ m
unfolding belongs
one_owner l m i b p q =
    let r = any_of_find _ lane_registers p in
    let s = any_of_find _ lane_registers q in
    sym (eqb-true _ _ (both_r _ _ (both_r _ _ r.2))) ∙ one_row r.0 s.0 i b r.1 s.1 (both_l _ _ r.2) (both_l _ _ s.2) ∙ eqb-true _ _ (both_r _ _ (both_r _ _ s.2))

-- it lies on page 10h or 11h, and is one of eight
late : LaneRegisters → Bool
late r = leb page10 r.from

rows_late : any_of lane_registers (λ r. not (late r)) ≡ false
unfolding any_of either late
rows_late = refl

pub owned_late : (l i b : ℕ) → belongs l i b ≡ true → page10 ≤ i
unfolding belongs late lies
owned_late l i b p =
    let r = any_of_find _ lane_registers p in
    let f : page10 ≤ r.0.from = leb-true _ _ (not-false _ (any_of-none (λ r. not (late r)) lane_registers r.0 rows_late r.1)) in
    let g : r.0.from ≤ i = leb-true _ _ (both_l _ _ (both_l _ _ r.2)) in
    omega arith

early : LaneRegisters → Bool
early r = ltb r.to page9_f

rows_early : any_of lane_registers (λ r. not (early r)) ≡ false
unfolding any_of either early
rows_early = refl

pub owned_early : (l i b : ℕ) → belongs l i b ≡ true → i < page9_f
unfolding belongs early lies
owned_early l i b p =
    let r = any_of_find _ lane_registers p in
    let f : r.0.to < page9_f = ltb-true _ _ (not-false _ (any_of-none (λ r. not (early r)) lane_registers r.0 rows_early r.1)) in
    let g : i ≤ r.0.to = leb-true _ _ (both_r _ _ (both_l _ _ r.2)) in
    omega arith

-- ---- the bits of a lane's field are the lane's: a test that is computed once for each register

unfoldable pub own_test : ℕ → ℕ → Bool
own_test base w = all_below 8 (λ l. all_below 8 (λ b. implies (covers (lane_field base w l) (lane_field base w l).byte b) (belongs l (lane_field base w l).byte b)))

pub own-field : (base w : ℕ) → 8 % w ≡ 0 → own_test base w ≡ true → (l i b : ℕ) → l < 8 → covers (lane_field base w l) i b ≡ true → belongs l i b ≡ true
unfolding own_test
own-field base w e t l i b h c =
    let n = covers_in (lane_field base w l) i b c in
    let f = lane_in base w l h e in
    let m : b < 8 = omega (arith, n.to, f.2, lane-width base w l) in
    let k : covers (lane_field base w l) (lane_field base w l).byte b ≡ true = ap (λ z. covers (lane_field base w l) z b) n.here ∙ c in
    ap (λ z. belongs l z b) (sym n.here) ∙ implies_use _ _ (all_at 8 _ (all_at 8 _ t l h) b m) k

-- ---- what may differ: bits inside A, and lower 3.0

neither : {a b : Bool} → a ≡ false → b ≡ false → either a b ≡ false
unfolding either
neither e f = rw (e, f, either)

-- a byte with bits of lanes lies on page 10h or 11h
shared_row : (i : ℕ) → is_shared i ≡ true → (page10 ≤ i) × (i < page9_f)
unfolding is_shared late early lies
shared_row i e =
    let r = any_of_find _ lane_registers e in
    let f : page10 ≤ r.0.from = leb-true _ _ (not-false _ (any_of-none (λ r. not (late r)) lane_registers r.0 rows_late r.1)) in
    let g : r.0.to < page9_f = ltb-true _ _ (not-false _ (any_of-none (λ r. not (early r)) lane_registers r.0 rows_early r.1)) in
    let h : r.0.from ≤ i = leb-true _ _ (both_l _ _ r.2) in
    let k : i ≤ r.0.to = leb-true _ _ (both_r _ _ r.2) in
    (omega arith, omega arith)

owned_shared : (l i b : ℕ) → belongs l i b ≡ true → (is_shared i ≡ true) × (b < 8)
unfolding belongs is_shared
owned_shared l i b p =
    let r = any_of_find _ lane_registers p in
    (any_of_i (λ r. lies r i) lane_registers r.0 r.1 (both_l _ _ r.2), ltb-true _ _ (both_l _ _ (both_r _ _ r.2)))

true-both : both true true ≡ true
unfolding both
true-both = refl

module _ (A : ℕ) where
  pub unsaid-own : (l i b : ℕ) → l < 8 → has A l ≡ true → belongs l i b ≡ true → unsaid A i b ≡ true
  unfolding unsaid inside
  unsaid-own l i b h a o = either_i_l _ _ (any_one 8 (λ m. both (has A m) (belongs m i b)) l h (both_i a o))

  pub unsaid-low : unsaid A module_state 0 ≡ true
  unfolding unsaid
  unsaid-low = either_i_r _ _ (either_i_l (both true true) _ true-both)

  pub unsaid_past : (i b : ℕ) → is_shared i ≡ true → 8 ≤ b → unsaid A i b ≡ true
  unfolding unsaid
  unsaid_past i b e h = either_i_r _ _ (either_i_r _ _ (both_i e (le-leb 8 b h)))

  not-inside : (i b : ℕ) → ((m : ℕ) → m < 8 → has A m ≡ true → belongs m i b ≡ true → ⊥) → inside A i b ≡ false
  unfolding inside
  not-inside i b f = none_any 8 (λ m. both (has A m) (belongs m i b)) (λ m h. split (both (has A m) (belongs m i b)) (λ e. absurd (f m h (both_l _ _ e) (both_r _ _ e))) (λ e. e))

  said_by : (i b : ℕ) → inside A i b ≡ false → (i ≡ module_state → b ≡ 0 → ⊥) → (is_shared i ≡ true → 8 ≤ b → ⊥) → unsaid A i b ≡ false
  unfolding unsaid
  said_by i b e f g = neither e (neither
      (split (both (eqb i module_state) (eqb b 0)) (λ t. absurd (f (eqb-true _ _ (both_l _ _ t)) (eqb-true _ _ (both_r _ _ t)))) (λ t. t))
      (split (both (is_shared i) (leb 8 b)) (λ t. absurd (g (both_l _ _ t) (leb-true _ _ (both_r _ _ t)))) (λ t. t)))

  -- a bit of a lane outside A is said to be the same
  pub said_own : (l i b : ℕ) → has A l ≡ false → belongs l i b ≡ true → unsaid A i b ≡ false
  said_own l i b a o = said_by i b
      (not-inside i b (λ m h c p. clash c (rw (one_owner m l i b p o) a)))
      (λ e z. omega (arith, owned_late l i b o))
      (λ e z. omega (arith, (owned_shared l i b o).1))

  -- and so is every bit of a byte that no lane has bits in, but lower 3.0
  pub said_low : (i b : ℕ) → i < page10 → i ≢ module_state → unsaid A i b ≡ false
  said_low i b h n = said_by i b (not-inside i b (λ m k c p. omega (arith, owned_late m i b p))) (λ e z. n e) (λ e z. omega (arith, shared_row i e))

  pub said_high : (i b : ℕ) → page9_f ≤ i → unsaid A i b ≡ false
  said_high i b h = said_by i b (not-inside i b (λ m k c p. omega (arith, owned_early m i b p))) (λ e z. omega arith) (λ e z. omega (arith, shared_row i e))

  pub said_state : (b : ℕ) → b ≢ 0 → unsaid A module_state b ≡ false
  said_state b n = said_by module_state b (not-inside module_state b (λ m k c p. omega (arith, owned_late m module_state b p))) (λ e z. n z)
      (λ e z. omega (arith, shared_row module_state e))

  -- what is said lies outside A
  pub said_outside : (i b : ℕ) → unsaid A i b ≡ false → inside A i b ≡ false
  unfolding unsaid
  said_outside i b e = either_l _ _ e
