-- Laws of the loops over the numbers below a count: what they keep, what they leave at each number, and what a search finds. Assumes nothing.
use mathlib.Core.Path.{◌≡◌, refl, sym, ap, ap₂, ◌∙◌}
use mathlib.Core.Bool.{Bool, true, false, not}
use mathlib.Core.List.{List, ◌∷◌}
use mathlib.Core.Logic.{◌≢◌}
use Prim.Native.Nat.{ℕ, zero, suc, ◌+◌, ◌%◌, ◌^◌, ◌≤◌, ◌<◌, zero-le, suc-le-suc}
use native.Mathlib.Nat.{le_of_suc-le-suc, not-suc-le-zero}
use native.Mathlib.Decide.{ℕ_discrete}
use native.Mathlib.Numerals.{add-one}
use native.Mathlib.Omega.{arith}
use lib.ListN.{length, get_or, set, length-set}
use lib.Seq.{get_or-set_same, get_or-set_other, ext_get_or}
use Rattle.bits.specs.declared.Place.{Place}
use Rattle.bits.specs.Choice.{pick, only_if, both, either}
use Rattle.bits.specs.Place.{get, put, apart}
use Rattle.bits.specs.Loop.{each, tab, any_below, all_below, seek}
use Rattle.bits.proofs.Tests.{split, clash, both_l, both_r, both_i, either_l, either_r, neither, pick_true, pick-false, only_true, only_false}
use Rattle.bits.proofs.Places.{length-put, get-put, get-apart}

-- ---- each
-- two loops with the same test keep a relation that each step keeps
pub each_two {ℓ ℓ' ℓ''} : {A : Type ℓ} {B : Type ℓ'} (R : A → B → Type ℓ'') (c : ℕ → Bool) (f : ℕ → A → A) (g : ℕ → B → B) (n : ℕ)
    → ((k : ℕ) (x : A) (y : B) → k < n → c k ≡ true → R x y → R (f k x) (g k y)) → (x : A) (y : B) → R x y → R (each c f n x) (each c g n y)
unfolding each only_if
each_two R c f g zero h x y r = r
each_two R c f g (suc n) h x y r =
    let s : R (each c f n x) (each c g n y) = each_two R c f g n (λ k u v b. h k u v (omega arith)) x y r in
    split (c n) (λ e. rw (e, only_if) (h n _ _ (omega arith) e s)) (λ e. rw (e, only_if) s)

module _ {ℓ} {A : Type ℓ} (c : ℕ → Bool) (f : ℕ → A → A) where
  -- a loop keeps what each step keeps
  pub each_ind {ℓ'} : (P : A → Type ℓ') (n : ℕ) → ((k : ℕ) (y : A) → k < n → c k ≡ true → P y → P (f k y)) → (x : A) → P x → P (each c f n x)
  each_ind P n h x p = each_two (λ y z. P y) c f f n (λ k y z. h k y) x x p

  -- equal tests and equal changes
  pub each_ext : (d : ℕ → Bool) (g : ℕ → A → A) (n : ℕ) (x : A) → ((k : ℕ) → k < n → c k ≡ d k)
      → ((k : ℕ) (y : A) → k < n → c k ≡ true → f k y ≡ g k y) → each c f n x ≡ each d g n x
  unfolding each only_if
  each_ext d g zero x t h = refl
  each_ext d g (suc n) x t h =
      let e : each c f n x ≡ each d g n x = each_ext d g n x (λ k b. t k (omega arith)) (λ k y b. h k y (omega arith)) in
      rw (← (t n (omega arith)), ← e) (split (c n) (λ q. rw (q, only_if) (h n _ (omega arith) q)) (λ q. rw (q, only_if)))

  -- what no step changes is as before
  pub each_skip {ℓ'} : {B : Type ℓ'} (g : A → B) (n : ℕ) (x : A) → ((k : ℕ) (y : A) → k < n → c k ≡ true → g (f k y) ≡ g y) → g (each c f n x) ≡ g x
  each_skip g n x h = each_ind (λ y. g y ≡ g x) n (λ k y b e r. h k y b e ∙ r) x refl

  -- a turn of a loop in code: what it has done below n, and at n
  pub each_begin : (x : A) → x ≡ each c f 0 x
  unfolding each
  each_begin x = refl

  pub each_turn : (n : ℕ) (x y : A) → y ≡ each c f n x → c n ≡ true → f n y ≡ each c f (n + 1) x
  unfolding each
  each_turn n x y h e = rw (add-one n, only_true (f n) (each c f n x) e, h)

  pub each_pass : (n : ℕ) (x y : A) → y ≡ each c f n x → c n ≡ false → y ≡ each c f (n + 1) x
  unfolding each
  each_pass n x y h e = rw (add-one n, only_false (f n) (each c f n x) e) h

  -- what no step after the one at m changes is as that one left it
  pub each_hit {ℓ'} : {B : Type ℓ'} (g : A → B) (m n : ℕ) (x : A) → m < n → c m ≡ true
      → ((k : ℕ) (y : A) → m < k → k < n → c k ≡ true → g (f k y) ≡ g y) → g (each c f n x) ≡ g (f m (each c f m x))
  unfolding each only_if
  each_hit g m zero x l e h = absurd (not-suc-le-zero l)
  each_hit g m (suc n) x l e h = elim (ℕ_discrete m n) [
    | yes q ↦ rw (← q, e, only_if)
    | no q ↦ let r : g (each c f n x) ≡ g (f m (each c f m x)) = each_hit g m n x (omega arith) e (λ k y a b. h k y a (omega arith)) in
        split (c n) (λ d. rw (d, only_if) (h n _ (omega arith) (omega arith) d ∙ r)) (λ d. rw (d, only_if) r)
  ]

-- puts at places that are apart: each picked place holds its value, as far as it fits, and the others what they held
module _ (c : ℕ → Bool) (p : ℕ → Place) (v : ℕ → ℕ) where
  pub length_puts : (n : ℕ) (x : List ℕ) → length (each c (λ k y. put y (p k) (v k)) n x) ≡ length x
  length_puts n x = each_skip c _ length n x (λ k y b e. length-put y (p k) (v k))

  pub get_puts_apart : (n : ℕ) (x : List ℕ) (q : Place) → ((k : ℕ) → k < n → c k ≡ true → apart (p k) q ≡ true)
      → get (each c (λ k y. put y (p k) (v k)) n x) q ≡ get x q
  get_puts_apart n x q h = each_skip c _ (λ y. get y q) n x (λ k y b e. get-apart y (p k) (v k) q (h k b e))

  pub get_puts : (n m : ℕ) (x : List ℕ) → m < n → (p m).byte < length x → ((k : ℕ) → k < n → k ≢ m → apart (p k) (p m) ≡ true)
      → get (each c (λ k y. put y (p k) (v k)) n x) (p m) ≡ pick (c m) (v m % 2 ^ (p m).width) (get x (p m))
  get_puts n m x l b h = split (c m)
      (λ e. each_hit c _ (λ y. get y (p m)) m n x l e (λ k y a b d. get-apart y (p k) (v k) (p m) (h k b (omega arith)))
      ∙ get-put _ (p m) (v m) (rw (length_puts m x) b) ∙ sym (pick_true _ _ e))
      (λ e. get_puts_apart n x (p m) (λ k b d. h k b (λ q. clash (rw q at d) e)) ∙ sym (pick-false _ _ e))

-- ---- tables
module _ {ℓ} {A : Type ℓ} where
  pub tab_at : (n : ℕ) (f : ℕ → A) (k : ℕ) (d : A) → k < n → get_or (tab n f) k d ≡ f k
  unfolding tab
  tab_at zero f k d h = absurd (not-suc-le-zero h)
  tab_at (suc n) f zero d h = refl
  tab_at (suc n) f (suc k) d h = tab_at n (λ j. f (suc j)) k d (le_of_suc-le-suc h)

  pub tab_past : (n : ℕ) (f : ℕ → A) (k : ℕ) (d : A) → n ≤ k → get_or (tab n f) k d ≡ d
  unfolding tab
  tab_past zero f k d h = refl
  tab_past (suc n) f zero d h = absurd (not-suc-le-zero h)
  tab_past (suc n) f (suc k) d h = tab_past n (λ j. f (suc j)) k d (le_of_suc-le-suc h)

  pub length-tab : (n : ℕ) (f : ℕ → A) → length (tab n f) ≡ n
  unfolding tab
  length-tab zero f = refl
  length-tab (suc n) f = ap suc (length-tab n (λ j. f (suc j)))

  pub tab_ext : (n : ℕ) (f g : ℕ → A) → ((k : ℕ) → k < n → f k ≡ g k) → tab n f ≡ tab n g
  unfolding tab
  tab_ext zero f g h = refl
  tab_ext (suc n) f g h = ap₂ ◌∷◌ (h 0 (suc-le-suc zero-le)) (tab_ext n (λ j. f (suc j)) (λ j. g (suc j)) (λ k l. h (suc k) (suc-le-suc l)))

  -- a loop that changes the picked elements, each from what it was
  pub change_loop : (c : ℕ → Bool) (f : ℕ → A → A) (xs : List A) (n : ℕ) (d : A) → length xs ≡ n
      → each c (λ k ys. set ys k (f k (get_or ys k d))) n xs ≡ tab n (λ k. pick (c k) (f k (get_or xs k d)) (get_or xs k d))
  change_loop c f xs n d e = ext_get_or d _ _ (size n ∙ e ∙ sym (length-tab n _)) (λ k l. let b : k < n = omega (arith, size n) in
      at k b ∙ sym (tab_at n _ k d b))
    where
      step : ℕ → List A → List A
      step k ys = set ys k (f k (get_or ys k d))

      size : (m : ℕ) → length (each c step m xs) ≡ length xs
      size m = each_skip c step length m xs (λ k ys b t. length-set ys k _)

      at : (k : ℕ) → k < n → get_or (each c step n xs) k d ≡ pick (c k) (f k (get_or xs k d)) (get_or xs k d)
      at k b = split (c k)
          (λ t. each_hit c step (λ ys. get_or ys k d) k n xs b t (λ j ys a b t. get_or-set_other ys j k _ d (omega arith))
          ∙ get_or-set_same (each c step k xs) k _ d (omega (arith, size k))
          ∙ ap (f k) (each_skip c step (λ ys. get_or ys k d) k xs (λ j ys a t. get_or-set_other ys j k _ d (omega arith)))
          ∙ sym (pick_true _ _ t))
          (λ t. each_skip c step (λ ys. get_or ys k d) n xs (λ j ys a u. get_or-set_other ys j k _ d (λ q. clash (rw (← q) at u) t)) ∙ sym (pick-false _ _ t))

  -- .. and one that replaces them
  pub set_loop : (c : ℕ → Bool) (f : ℕ → A) (xs : List A) (n : ℕ) (d : A) → length xs ≡ n
      → each c (λ k ys. set ys k (f k)) n xs ≡ tab n (λ k. pick (c k) (f k) (get_or xs k d))
  set_loop c f = change_loop c (λ k y. f k)

-- ---- any, all
pub any_none : (n : ℕ) (p : ℕ → Bool) → any_below n p ≡ false → (k : ℕ) → k < n → p k ≡ false
unfolding any_below
any_none zero p e k h = absurd (not-suc-le-zero h)
any_none (suc n) p e k h = elim (ℕ_discrete k n) [
  | yes q ↦ rw q (either_r (any_below n p) (p n) e)
  | no q ↦ any_none n p (either_l (any_below n p) (p n) e) k (omega arith)
]

pub any_one : (n : ℕ) (p : ℕ → Bool) (k : ℕ) → k < n → p k ≡ true → any_below n p ≡ true
any_one n p k h e = split (any_below n p) (λ a. a) (λ a. absurd (clash e (any_none n p a k h)))

pub any_find : (n : ℕ) (p : ℕ → Bool) → any_below n p ≡ true → (k : ℕ) × (k < n) × (p k ≡ true)
unfolding any_below either
any_find zero p e = absurd (clash e refl)
any_find (suc n) p e = split (any_below n p)
    (λ a. let r = any_find n p a in (r.0, omega arith, r.2))
    (λ a. (n, omega arith, (rw (a, either) at e)))

pub none_any : (n : ℕ) (p : ℕ → Bool) → ((k : ℕ) → k < n → p k ≡ false) → any_below n p ≡ false
none_any n p h = split (any_below n p) (λ a. let r = any_find n p a in absurd (clash r.2 (h r.0 r.1))) (λ a. a)

pub any_ext : (n : ℕ) (p q : ℕ → Bool) → ((k : ℕ) → k < n → p k ≡ q k) → any_below n p ≡ any_below n q
unfolding any_below
any_ext zero p q h = refl
any_ext (suc n) p q h = ap₂ either (any_ext n p q (λ k b. h k (omega arith))) (h n (omega arith))

pub all_at : (n : ℕ) (p : ℕ → Bool) → all_below n p ≡ true → (k : ℕ) → k < n → p k ≡ true
unfolding all_below
all_at zero p e k h = absurd (not-suc-le-zero h)
all_at (suc n) p e k h = elim (ℕ_discrete k n) [
  | yes q ↦ rw q (both_r (all_below n p) (p n) e)
  | no q ↦ all_at n p (both_l (all_below n p) (p n) e) k (omega arith)
]

pub all_intro : (n : ℕ) (p : ℕ → Bool) → ((k : ℕ) → k < n → p k ≡ true) → all_below n p ≡ true
unfolding all_below
all_intro zero p h = refl
all_intro (suc n) p h = both_i (all_intro n p (λ k b. h k (omega arith))) (h n (omega arith))

pub all_ext : (n : ℕ) (p q : ℕ → Bool) → ((k : ℕ) → k < n → p k ≡ q k) → all_below n p ≡ all_below n q
unfolding all_below
all_ext zero p q h = refl
all_ext (suc n) p q h = ap₂ both (all_ext n p q (λ k b. h k (omega arith))) (h n (omega arith))

-- none passes where all fail
pub not_any : (n : ℕ) (p : ℕ → Bool) → not (any_below n p) ≡ all_below n (λ k. not (p k))
unfolding any_below all_below
not_any zero p = refl
not_any (suc n) p = neither (any_below n p) (p n) ∙ ap (λ t. both t (not (p n))) (not_any n p)

-- ---- seek: it starts at k, passes only what fails the test, and stops at what passes or after the last
pub seek-le : (left k : ℕ) (p : ℕ → Bool) → k ≤ seek left k p
unfolding seek pick
seek-le zero k p = omega arith
seek-le (suc left) k p = split (p k) (λ e. rw (e, pick) (omega arith)) (λ e. rw (e, pick) (omega (arith, seek-le left (suc k) p)))

pub seek_bound : (left k : ℕ) (p : ℕ → Bool) → seek left k p ≤ k + left
unfolding seek pick
seek_bound zero k p = omega arith
seek_bound (suc left) k p = split (p k) (λ e. rw (e, pick) (omega arith)) (λ e. rw (e, pick) (omega (arith, seek_bound left (suc k) p)))

pub seek_skips : (left k : ℕ) (p : ℕ → Bool) (m : ℕ) → k ≤ m → m < seek left k p → p m ≡ false
unfolding seek pick
seek_skips zero k p m h l = absurd (omega arith)
seek_skips (suc left) k p m h l = split (p k)
    (λ e. absurd (omega (arith, (rw (e, pick) at l))))
    (λ e. elim (ℕ_discrete m k) [ yes q ↦ rw q e | no q ↦ seek_skips left (suc k) p m (omega arith) (rw (e, pick) at l) ])

pub seek_in : (left k : ℕ) (p : ℕ → Bool) → seek left k p < k + left → p (seek left k p) ≡ true
unfolding seek pick
seek_in zero k p l = absurd (omega arith)
seek_in (suc left) k p l = split (p k)
    (λ e. rw (e, pick) e)
    (λ e. rw (e, pick) (seek_in left (suc k) p (omega (arith, (rw (e, pick) at l)))))
