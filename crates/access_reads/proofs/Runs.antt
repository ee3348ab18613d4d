-- Bytes cleared from a place on: two ways that clear the same bytes leave the same image. Assumes nothing.
use mathlib.Core.Path.{◌≡◌, refl, sym, ap, ◌∙◌}
use mathlib.Core.Bool.{Bool, true, false}
use mathlib.Core.Logic.{inl, inr}
use mathlib.Core.List.{List, [], ◌++◌}
use Prim.Native.Nat.{ℕ, zero, suc, ◌+◌, ◌-◌, ◌≤◌, ◌<◌, max, min}
use native.Mathlib.Numerals.{add-one}
use native.Mathlib.Omega.{arith}
use lib.Dec.{eqb}
use borrow.Rule.Slice.PartMut.{put_mid, post_of}
use Rattle.std.proofs.lemmas.List.{set-append_left, set-append_right}
use lib.ListN.{length, take, get_or, set, replicate, length-set}
use lib.Seq.{paste, length-take-le, get_or-set_same, get_or-set_other, ext_get_or}
use Rattle.std.proofs.lemmas.List.Edits.{paste_none, fill_from_more}
use borrow.Author.Tests.{leb-true, le-leb, eqb-true, eq-eqb}
use Rattle.bits.specs.Choice.{only_if, both}
use Rattle.bits.specs.Loop.{each, any_below}
use Rattle.bits.proofs.Loops.{each_hit, each_skip, any_none, any_find}
use Rattle.bits.proofs.Tests.{split, clash, both_l, both_r, both_i, either_cases, either_i_l, either_i_r}
use Rattle.model.specs.Map.{Image, image_length, flag_bytes, flag_byte_count, in_ranges, clearing}
use Rattle.model.specs.Access.{cleared_image}
use Rattle.access_reads.specs.Left.{zeroed}

module _ (c : ℕ → Bool) (i n : ℕ) (x : Image) where
  abbrev pub step : ℕ → Image → Image
  step k y = set y (i + k) 0

  pub zeroed-length : (m : ℕ) → length (each c step m x) ≡ length x
  zeroed-length m = each_skip c step length m x (λ k y b t. length-set y (i + k) 0)

  -- a byte that is cleared, and one that is not
  cleared_at : (k : ℕ) → k < n → c k ≡ true → i + k < length x → get_or (zeroed c i n x) (i + k) 0 ≡ 0
  unfolding zeroed
  cleared_at k b e h =
      each_hit c step (λ y. get_or y (i + k) 0) k n x b e (λ j y a d t. get_or-set_other y (i + j) (i + k) 0 0 (omega arith))
      ∙ get_or-set_same (each c step k x) (i + k) 0 0 (omega (arith, zeroed-length k))

  kept_at : (j : ℕ) → ((k : ℕ) → k < n → c k ≡ true → i + k ≡ j → ⊥) → get_or (zeroed c i n x) j 0 ≡ get_or x j 0
  unfolding zeroed
  kept_at j h = each_skip c step (λ y. get_or y j 0) n x (λ k y b t. get_or-set_other y (i + k) j 0 0 (λ p. h k b t (sym p)))

-- every byte of a run, cleared at once
pub zeros_pasted : (i n : ℕ) (x : Image) → i + n ≤ length x → zeroed (λ k. true) i n x ≡ paste x i (replicate n 0) n
unfolding zeroed each only_if
zeros_pasted i zero x h = paste_none x i []
zeros_pasted i (suc n) x h =
    ap (λ y. set y (i + n) 0) (zeros_pasted i n x (omega arith))
    ∙ fill_from_more x i n 0 (omega arith)
    ∙ ap (λ m. paste x i (replicate m 0) m) (add-one n)

-- a byte written in a part that is lent is written in the whole
pub part_set : (i n k v : ℕ) (x ys : List ℕ) → i ≤ length x → k < length ys → put_mid i n x (set ys k v) ≡ set (put_mid i n x ys) (i + k) v
part_set i n k v x ys h b =
    let here : i + k - i ≡ k = omega arith in
    sym (set-append_right (take i x) (ys ++ post_of i n x) i (i + k) v (length-take-le i x h) (omega arith)
    ∙ ap (λ m. take i x ++ set (ys ++ post_of i n x) m v) here
    ∙ ap (λ t. take i x ++ t) (set-append_left ys (post_of i n x) k v b))

-- the byte k of one way is a byte of the other
pub record Met (d : ℕ → Bool) (i n j : ℕ) : Type 0 where
  pub far : ℕ
  pub below : far < n
  pub passes : d far ≡ true
  pub here : i + far ≡ j

module _ (c d : ℕ → Bool) (i n i' n' : ℕ) (x : Image) (fits : i + n ≤ length x) (fits' : i' + n' ≤ length x)
    (forth : (k : ℕ) → k < n → c k ≡ true → Met d i' n' (i + k)) (back : (k : ℕ) → k < n' → d k ≡ true → Met c i n (i' + k)) where
  pub zeroed-same : zeroed c i n x ≡ zeroed d i' n' x
  unfolding zeroed
  zeroed-same = ext_get_or 0 _ _ (zeroed-length c i n x n ∙ sym (zeroed-length d i' n' x n')) (λ j b. split (any_below n (λ k. both (c k) (eqb (i + k) j))) (met j) (unmet j))
    where
      met : (j : ℕ) → any_below n (λ k. both (c k) (eqb (i + k) j)) ≡ true → get_or (zeroed c i n x) j 0 ≡ get_or (zeroed d i' n' x) j 0
      met j e =
          let r = any_find n _ e in
          let p : i + r.0 ≡ j = eqb-true _ _ (both_r _ _ r.2) in
          let q = forth r.0 r.1 (both_l _ _ r.2) in
          rw (← p) (cleared_at c i n x r.0 r.1 (both_l _ _ r.2) (omega arith)
          ∙ sym (rw q.here at (cleared_at d i' n' x q.far q.below q.passes (omega (arith, q.below)))))

      unmet : (j : ℕ) → any_below n (λ k. both (c k) (eqb (i + k) j)) ≡ false → get_or (zeroed c i n x) j 0 ≡ get_or (zeroed d i' n' x) j 0
      unmet j e =
          let none : (k : ℕ) → k < n → c k ≡ true → i + k ≡ j → ⊥ = λ k b t p. clash (both_i t (eq-eqb (i + k) j p)) (any_none n _ e k b) in
          kept_at c i n x j none
          ∙ sym (kept_at d i' n' x j (λ k b t p. let q = back k b t in none q.far q.below q.passes (q.here ∙ p)))

-- ---- past the module's own flags a read clears the flag bytes of page 11h alone

-- the last flag byte
abbrev last_flags_lem : ℕ
last_flags_lem = flag_bytes + flag_byte_count - 1

flags_of : (j : ℕ) → 9 < j → clearing j ≡ true → (flag_bytes ≤ j) × (j ≤ last_flags_lem)
unfolding clearing in_ranges
flags_of j h e = elim (either_cases _ _ e) [
  | inl u ↦ absurd (let l : j ≤ 9 = leb-true _ _ (both_r _ _ u) in omega arith)
  | inr r ↦ elim (either_cases _ _ r) [
    | inl u ↦ (leb-true _ _ (both_l _ _ u), leb-true _ _ (both_r _ _ u))
    | inr z ↦ absurd (clash z refl)
  ]
]

of-flags : (j : ℕ) → flag_bytes ≤ j → j ≤ last_flags_lem → clearing j ≡ true
unfolding clearing in_ranges
of-flags j h l = either_i_r _ _ (either_i_l _ _ (both_i (le-leb _ _ h) (le-leb _ _ l)))

module _ (x : Image) (i n from end : ℕ) (len : length x ≡ image_length) (fits : i + n ≤ image_length) (past : 9 < i) (f : from ≡ max i flag_bytes)
    (t : end ≡ min (i + n) (flag_bytes + flag_byte_count)) where
  starts : (i ≤ from) × (flag_bytes ≤ from)
  starts = omega arith

  ends : (end ≤ i + n) × (end ≤ flag_bytes + flag_byte_count)
  ends = omega arith

  -- a byte that a read clears lies in the run
  in_run : (k : ℕ) → k < n → clearing (i + k) ≡ true → (from ≤ i + k) × (i + k < end)
  in_run k b e =
      let u = flags_of (i + k) (omega arith) e in
      omega (arith, u)

  pub run_cleared : from < end → zeroed (λ k. true) from (end - from) x ≡ cleared_image x i n
  unfolding zeroed cleared_image
  run_cleared h = zeroed-same (λ k. true) (λ k. clearing (i + k)) from (end - from) i n x (omega (arith, ends.0)) (omega arith)
      (λ k b e. record { far = from + k - i; below = omega (arith, starts.0, ends.0); passes = of-flags _ (omega (arith, starts.0, starts.1)) (omega (arith, starts.0, ends.1)); here = omega (arith, starts.0) })
      (λ k b e. let u = in_run k b e in record { far = i + k - from; below = omega (arith, u.0, u.1); passes = refl; here = omega (arith, u.0) })

  pub none_met : end ≤ from → x ≡ cleared_image x i n
  unfolding cleared_image
  none_met h = sym (each_skip _ _ (λ y. y) n x (λ k y b e. absurd (let u = in_run k b e in omega (arith, u.0, u.1))))
