-- Two images that are the same but for what is not said: what lanes outside A read is the same, and changes inside A or alike in both leave it so. Assumes nothing.
use mathlib.Core.Path.{◌≡◌, refl, sym, ◌∙◌}
use mathlib.Core.Bool.{Bool, true, false}
use mathlib.Core.Logic.{◌≢◌}
use Prim.Native.Nat.{ℕ, zero, suc, ◌+◌, ◌-◌, ◌*◌, ◌≤◌, ◌<◌}
use native.Mathlib.Decide.{ℕ_discrete, dec_lt}
use native.Mathlib.Omega.{arith}
use lib.ListN.{length, get_or, set, length-set}
use lib.Seq.{set_out, get_or-set_same, get_or-set_other}
use Rattle.bits.specs.Choice.{only_if, both, either, implies}
use Rattle.bits.specs.Lane.{lane_field}
use Rattle.bits.specs.Loop.{each, any_of, all_below}
use Rattle.bits.specs.Number.{field}
use Rattle.bits.specs.Place.{get, put, digit, covers}
use Rattle.bits.specs.Sets.{has}
use Rattle.bits.specs.declared.Place.{Place}
use Rattle.bits.proofs.Tests.{split, clash, both_l, both_r}
use Rattle.bits.proofs.Places.{length-put, digit-put-out, get_ext}
use Rattle.bits.proofs.Loops.{each_ind, all_at}
use Rattle.model.specs.Map.{Image, page10, page11, page9_f, on, flag_at, module_state, state_at, status_at, pending_at, deinit_at, output_disable_at, squelch_force_at, flag_bytes, flag_byte_count, active_set, staged_base, setting_at, setting_offsets, setting_widths, received_power}
use Rattle.model.specs.declared.lane.StagedSet.{StagedSet}
use Rattle.model.specs.declared.lane.StagedSet.TheVariants.{Set0, Set1}
use Rattle.laws_frames.specs.Alike.{Alike}
use Rattle.laws_frames.proofs.Alike.{alike-put, alike-byte}
use Rattle.laws_frames.proofs.Registers.{setting-width}
use Rattle.laws_links.specs.Links.{lies, lane_of, belongs, is_shared, unsaid}
use Rattle.laws_links.proofs.Owned.{own_test, own-field, unsaid-own, unsaid_past, said_own, said_low, said_high}

-- ---- places of one lane

abbrev pub Owned : Place → ℕ → Type 0
Owned p l = (i b : ℕ) → covers p i b ≡ true → belongs l i b ≡ true

state_test : own_test 640 4 ≡ true
unfolding own_test belongs covers lane_field lies lane_of any_of all_below both either implies
state_test = refl

status_test : own_test 714 4 ≡ true
unfolding own_test belongs covers lane_field lies lane_of any_of all_below both either implies
status_test = refl

-- DPDeinit, OutputDisableTx, OutputSquelchForceTx and DPInitPending
bit_tests : both (own_test 512 1) (both (own_test 514 1) (both (own_test 516 1) (own_test 747 1))) ≡ true
unfolding own_test belongs covers lane_field lies lane_of any_of all_below both either implies
bit_tests = refl

flag_tests : all_below flag_byte_count (λ k. own_test (flag_bytes + k) 1) ≡ true
unfolding own_test belongs covers lane_field lies lane_of any_of all_below both either implies
flag_tests = refl

settings_test : ℕ → Bool
settings_test base = all_below 8 (λ k. own_test (base + get_or setting_offsets k 0) (get_or setting_widths k 0))

active_test : settings_test active_set ≡ true
unfolding settings_test own_test belongs covers lane_field lies lane_of any_of all_below both either implies
active_test = refl

staged_tests : (set : StagedSet) → settings_test (staged_base set) ≡ true
unfolding settings_test own_test belongs covers lane_field lies lane_of any_of all_below both either implies
staged_tests Set0 = refl
staged_tests Set1 = refl

-- received power: two whole bytes of each lane
power_test : all_below 8 (λ l. all_below 2 (λ j. both (is_shared (received_power + 2 * l + j)) (all_below 8 (λ b. belongs l (received_power + 2 * l + j) b)))) ≡ true
unfolding belongs is_shared lies lane_of any_of all_below both either
power_test = refl

pub own-state : (l : ℕ) → l < 8 → Owned (state_at l) l
own-state l h i b c = own-field 640 4 refl state_test l i b h c

pub own-status : (l : ℕ) → l < 8 → Owned (status_at l) l
own-status l h i b c = own-field 714 4 refl status_test l i b h c

pub own_deinit : (l : ℕ) → l < 8 → Owned (deinit_at l) l
own_deinit l h i b c = own-field 512 1 refl (both_l _ _ bit_tests) l i b h c

pub own_disable : (l : ℕ) → l < 8 → Owned (output_disable_at l) l
own_disable l h i b c = own-field 514 1 refl (both_l _ _ (both_r (own_test 512 1) _ bit_tests)) l i b h c

pub own_squelch : (l : ℕ) → l < 8 → Owned (squelch_force_at l) l
own_squelch l h i b c = own-field 516 1 refl (both_l _ _ (both_r (own_test 514 1) _ (both_r (own_test 512 1) _ bit_tests))) l i b h c

pub own-pending : (l : ℕ) → l < 8 → Owned (pending_at l) l
own-pending l h i b c = own-field 747 1 refl (both_r (own_test 516 1) _ (both_r (own_test 514 1) _ (both_r (own_test 512 1) _ bit_tests))) l i b h c

pub own-flag : (address l : ℕ) → 134 ≤ address → address < 154 → l < 8 → Owned (flag_at address l) l
own-flag address l lo hi h =
    let e : on page11 address ≡ flag_bytes + (address - 134) = omega arith in
    rw e (λ i b c. own-field (flag_bytes + (address - 134)) 1 refl (all_at flag_byte_count _ flag_tests (address - 134) (omega arith)) l i b h c)

own-setting : (base : ℕ) → settings_test base ≡ true → (k l : ℕ) → k < 8 → l < 8 → Owned (setting_at base k l) l
unfolding settings_test setting_at
own-setting base t k l g h i b c = own-field (base + get_or setting_offsets k 0) (get_or setting_widths k 0) (setting-width k g) (all_at 8 _ t k g) l i b h c

pub own-active : (k l : ℕ) → k < 8 → l < 8 → Owned (setting_at active_set k l) l
own-active = own-setting active_set active_test

pub own-staged : (set : StagedSet) (k l : ℕ) → k < 8 → l < 8 → Owned (setting_at (staged_base set) k l) l
own-staged set = own-setting (staged_base set) (staged_tests set)

-- ---- images that are the same but for what is not said

module _ (A : ℕ) where
  abbrev pub Same : Image → Image → Type 0
  Same x y = Alike (unsaid A) x y

  pub same_sym : (x y : Image) → Same x y → Same y x
  same_sym x y K = record { size = sym K.size; bits = λ i b e. sym (K.bits i b e) }

  -- what a lane outside A reads
  pub seen : (x y : Image) → Same x y → (p : Place) (l : ℕ) → Owned p l → has A l ≡ false → get x p ≡ get y p
  seen x y K p l o a = get_ext x y p (λ i b c. K.bits i b (said_own A l i b a (o i b c)))

  -- bytes that no lane has bits in
  pub low : (x y : Image) → Same x y → (i : ℕ) → i < page10 → i ≢ module_state → get_or x i 0 ≡ get_or y i 0
  low x y K i h n = alike-byte (unsaid A) x y i K (λ b. said_low A i b h n)

  pub high : (x y : Image) → Same x y → (i : ℕ) → page9_f ≤ i → get_or x i 0 ≡ get_or y i 0
  high x y K i h = alike-byte (unsaid A) x y i K (λ b. said_high A i b h)

  -- ---- changes of lanes' places

  pub put-inside : (x y : Image) (p : Place) (v l : ℕ) → l < 8 → has A l ≡ true → Owned p l → Same x y → Same (put x p v) y
  put-inside x y p v l h a o K = record {
    size = length-put x p v ∙ K.size;
    bits = λ i b e. digit-put-out x p v i b (split (covers p i b) (λ c. absurd (clash (unsaid-own A l i b h a (o i b c)) e)) (λ c. c)) ∙ K.bits i b e;
  }

  -- one loop over the lanes in both, whose tests agree outside A
  module _ (p : ℕ → Place) (v : ℕ) (own : (l : ℕ) → l < 8 → Owned (p l) l) where
    pub puts_inside : (c : ℕ → Bool) → ((l : ℕ) → l < 8 → c l ≡ true → has A l ≡ true) → (x y : Image) → Same x y → Same (each c (λ l z. put z (p l) v) 8 x) y
    puts_inside c h x y K = each_ind c (λ l z. put z (p l) v) (λ z. Same z y) 8 (λ l z b t G. put-inside z y (p l) v l b (h l b t) (own l b) G) x K

    pub puts_both : (c d : ℕ → Bool) (n : ℕ) → n ≤ 8 → ((l : ℕ) → l < 8 → has A l ≡ false → c l ≡ d l) → (x y : Image) → Same x y
        → Same (each c (λ l z. put z (p l) v) n x) (each d (λ l z. put z (p l) v) n y)
    unfolding each only_if
    puts_both c d zero h e x y K = K
    puts_both c d (suc n) h e x y K =
        let G : Same (each c (λ l z. put z (p l) v) n x) (each d (λ l z. put z (p l) v) n y) = puts_both c d n (omega arith) e x y K in
        split (has A n)
        (λ a. split (c n)
        (λ s. let L = put-inside _ _ (p n) v n (omega arith) a (own n (omega arith)) G in
        split (d n)
        (λ t. rw (s, t, only_if) (same_sym _ _ (put-inside _ _ (p n) v n (omega arith) a (own n (omega arith)) (same_sym _ _ L))))
        (λ t. rw (s, t, only_if) L))
        (λ s. split (d n)
        (λ t. rw (s, t, only_if) (same_sym _ _ (put-inside _ _ (p n) v n (omega arith) a (own n (omega arith)) (same_sym _ _ G))))
        (λ t. rw (s, t, only_if) G)))
        (λ a. split (d n)
        (λ t. rw (e n (omega arith) a, t, only_if) (alike-put (unsaid A) _ _ (p n) v G))
        (λ t. rw (e n (omega arith) a, t, only_if) G))

  -- ---- changes of whole bytes

  pub set_both : (x y : Image) (i v v' : ℕ) → ((b : ℕ) → unsaid A i b ≡ false → field v b 1 ≡ field v' b 1) → Same x y → Same (set x i v) (set y i v')
  unfolding digit
  set_both x y i v v' h K = record {
    size = length-set x i v ∙ K.size ∙ sym (length-set y i v');
    bits = λ j b e. elim (dec_lt i (length x)) [
      | no l ↦ rw (set_out x i v (omega arith), set_out y i v' (omega (arith, K.size))) (K.bits j b e)
      | yes l ↦ elim (ℕ_discrete j i) [
        | yes q ↦ rw (q, get_or-set_same x i v 0 l, get_or-set_same y i v' 0 (omega (arith, K.size))) (h b (rw q at e))
        | no n ↦ rw (get_or-set_other x i j v 0 n, get_or-set_other y i j v' 0 n) (K.bits j b e)
      ]
    ];
  }

  pub set-inside : (x y : Image) (i v : ℕ) → ((b : ℕ) → unsaid A i b ≡ false → field v b 1 ≡ digit x i b) → Same x y → Same (set x i v) y
  unfolding digit
  set-inside x y i v h K = record {
    size = length-set x i v ∙ K.size;
    bits = λ j b e. elim (dec_lt i (length x)) [
      | no l ↦ rw (set_out x i v (omega arith)) (K.bits j b e)
      | yes l ↦ elim (ℕ_discrete j i) [
        | yes q ↦ rw (q, get_or-set_same x i v 0 l) (h b (rw q at e) ∙ K.bits i b (rw q at e))
        | no n ↦ rw (get_or-set_other x i j v 0 n) (K.bits j b e)
      ]
    ];
  }

  -- a byte of a lane's received power
  power-unsaid : (l j b : ℕ) → l < 8 → j < 2 → has A l ≡ true → unsaid A (received_power + 2 * l + j) b ≡ true
  power-unsaid l j b h g a =
      let t = all_at 2 _ (all_at 8 _ power_test l h) j g in
      elim (dec_lt b 8) [
        | yes k ↦ unsaid-own A l _ b h a (all_at 8 _ (both_r _ _ t) b k)
        | no k ↦ unsaid_past A _ b (both_l _ _ t) (omega arith)
      ]

  pub power-inside : (x y : Image) (l j v : ℕ) → l < 8 → j < 2 → has A l ≡ true → Same x y → Same (set x (received_power + 2 * l + j) v) y
  power-inside x y l j v h g a K = set-inside x y _ v (λ b e. absurd (clash (power-unsaid l j b h g a) e)) K
