-- Laws of a record: its tests as code computes them, and the part of a row of bytes that it is. Assumes nothing.
use mathlib.Core.Path.{◌≡◌, refl, sym, ap, ◌∙◌}
use mathlib.Core.Bool.{Bool, true, false, ◌&&◌}
use mathlib.Core.List.{List}
use mathlib.Core.Logic.{◌≢◌}
use Prim.Native.Nat.{ℕ, zero, suc, ◌+◌, ◌-◌, ◌*◌, ◌^◌, ◌≤◌, ◌<◌}
use native.Mathlib.Nat.{add-zero}
use native.Mathlib.Decide.{dec_lt}
use native.Mathlib.Omega.{arith}
use lib.Dec.{eqb, leb, ltb}
use lib.ListN.{get_or, take, drop}
use lib.Pow.{pow_pos, pow-add}
use borrow.Author.Tests.{eqb-true, eqb-false, leb-true, ltb-true, ltb-false, le-leb, lt-ltb, le-ltb, eq-eqb, ne_eqb}
use Rattle.bits.specs.Choice.{pick, both, either}
use Rattle.bits.proofs.Tests.{and_both, split, bool_eq, implies_use, implies_i, both_i, both_l, both_r, pick_true, pick-false}
use Rattle.bits.proofs.Loops.{all_at, all_intro}
use Rattle.night_records.specs.Clear.{is_clear, is_clear_from, low_first, tail_of, front_of, condition_limit, power_limit, front_limit}
use Rattle.night_records.specs.Kind.{number_of}
use Rattle.night_records.specs.declared.Kind.{Kind}
use Rattle.night_records.specs.declared.Kind.TheVariants.{Write, Read, Work, Hardware, Condition, Sample, Module, Line}
use Rattle.model.specs.File as file
use Rattle.night_records.specs.Edition.{edition_number, row_of}
use Rattle.night_records.specs.declared.Edition.{Edition}
use Rattle.night_records.specs.declared.Edition.TheVariants.{First, Second, Third, Fourth}
use Rattle.model.specs.File.{edition_among, kind_of, write_kind, read_kind, work_kind, hardware_kind, condition_kind, sample_kind, module_kind, line_kind, line_bytes, used_bytes, is_record, record_length}
use Rattle.model.proofs.Editions.{six_forms}

-- ---- tests
-- tests joined by `&`
pub joined : {a b c d : Bool} → a ≡ c → b ≡ d → (a && b) ≡ both c d
joined {a} {b} {c} {d} p q = rw (p, q) (and_both c d)

pub both_right : (a b : Bool) → b ≡ false → both a b ≡ false
unfolding both
both_right true b e = e
both_right false b e = refl

pub both_left : (a b : Bool) → a ≡ false → both a b ≡ false
unfolding both
both_left a b e = rw (e, both)

-- a number that is no kind's, and a kind's
pub no_kind : (n : ℕ) → (0 < n → line_kind < n) → (k : ℕ) → leb 1 k ≡ true → leb k line_kind ≡ true → eqb n k ≡ false
no_kind n h k p q =
    let a = leb-true 1 k p in
    let b = leb-true k line_kind q in
    ne_eqb n k (grind arith)

-- ---- the number of an edition names it again
pub named_again : (e : Edition) → edition_among file.later_editions (row_of e).number ≡ row_of e
unfolding edition_among pick
named_again First = refl
named_again Second = refl
named_again Third = refl
named_again Fourth = refl

-- ---- one record
-- a record of a listed kind is one by the bytes that the kind does not use
pub record_by : (e : file.Edition) (used : ℕ) (bytes : List ℕ) (r : Bool) → r ≡ is_clear_from used bytes → used_bytes e.forms bytes ≡ used → 0 < used → r ≡ is_record e bytes
unfolding is_record is_clear_from both
record_by e used bytes r p u h = rw (u, lt-ltb 0 used h, both) p

module _ (used : ℕ) (bytes : List ℕ) where
  clear_at : is_clear_from used bytes ≡ true → (j : ℕ) → used ≤ j → j < record_length → get_or bytes j 0 ≡ 0
  unfolding is_clear_from
  clear_at e j u h = eqb-true _ _ (implies_use (leb used j) _ (all_at record_length (is_clear used bytes) e j h) (le-leb used j u))

  clear_all : ((j : ℕ) → used ≤ j → j < record_length → get_or bytes j 0 ≡ 0) → is_clear_from used bytes ≡ true
  unfolding is_clear_from
  clear_all f = all_intro record_length (is_clear used bytes) (λ j h. implies_i (leb used j) _ (λ u. eq-eqb _ _ (f j (leb-true used j u) h)))

-- one byte more
pub clear_step : (used : ℕ) (bytes : List ℕ) (a b : Bool) → used < record_length → a ≡ eqb (get_or bytes used 0) 0 → b ≡ is_clear_from (suc used) bytes
    → (a && b) ≡ is_clear_from used bytes
clear_step used bytes a b h p q =
    joined p q
    ∙ bool_eq _ _
    (λ e. clear_all used bytes (λ j u l. split (eqb j used)
    (λ t. let z : j ≡ used = eqb-true _ _ t in rw z (eqb-true _ _ (both_l _ _ e)))
    (λ t. clear_at (suc used) bytes (both_r _ _ e) j (ne_le used j u (eqb-false _ _ t)) l)))
    (λ e. both_i (eq-eqb _ _ (clear_at used bytes e used (omega arith) h)) (clear_all (suc used) bytes (λ j u l. clear_at used bytes e j (omega arith) l)))
  where
    ne_le : (m n : ℕ) → m ≤ n → (n ≡ m → ⊥) → suc m ≤ n
    ne_le m n h f = split (ltb m n) (λ t. ltb-true m n t) (λ t. absurd (f (omega (arith, ltb-false m n t))))

-- ---- the last bytes as one number: it stays below a limit exactly where those from some place on are 0
eight_more : (m : ℕ) → 2 ^ (8 * suc m) ≡ 256 * 2 ^ (8 * m)
eight_more m = let e : 8 * suc m ≡ 8 + 8 * m = omega arith in rw e (pow-add 2 8 (8 * m))

next_at : (at j : ℕ) → at + suc j ≡ suc at + j
next_at at j = omega arith

module _ (bytes : List ℕ) where
  low_below : (m n at : ℕ) → low_first n bytes at < 2 ^ (8 * m) → (j : ℕ) → m ≤ j → j < n → get_or bytes (at + j) 0 ≡ 0
  unfolding low_first
  low_below m zero at h j u l = absurd (omega arith)
  low_below zero (suc n) at h zero u l = rw (add-zero at) (omega arith)
  low_below zero (suc n) at h (suc j) u l = rw (next_at at j) (low_below zero n (suc at) (omega arith) j (omega arith) (omega arith))
  low_below (suc m) (suc n) at h zero u l = absurd (omega arith)
  low_below (suc m) (suc n) at h (suc j) u l = rw (next_at at j) (low_below m n (suc at) (omega (arith, eight_more m)) j (omega arith) (omega arith))

  below_low : ((i : ℕ) → get_or bytes i 0 < 256) → (m n at : ℕ) → ((j : ℕ) → m ≤ j → j < n → get_or bytes (at + j) 0 ≡ 0) → low_first n bytes at < 2 ^ (8 * m)
  unfolding low_first
  below_low small m zero at f = pow_pos (8 * m)
  below_low small zero (suc n) at f =
      let z : get_or bytes at 0 ≡ 0 = rw add-zero at (f 0 (omega arith) (omega arith)) in
      let v = below_low small zero n (suc at) (λ j u l. rw (next_at at j) at (f (suc j) (omega arith) (omega arith))) in
      omega arith
  below_low small (suc m) (suc n) at f =
      let v = below_low small m n (suc at) (λ j u l. rw (next_at at j) at (f (suc j) (omega arith) (omega arith))) in
      omega (arith, small at, eight_more m)

  tail_clear : (m : ℕ) → tail_of bytes < 2 ^ (8 * m) → is_clear_from (4 + m) bytes ≡ true
  tail_clear m h = clear_all (4 + m) bytes at_tail
    where
      at_tail : (j : ℕ) → 4 + m ≤ j → j < record_length → get_or bytes j 0 ≡ 0
      at_tail j u l = let z : j ≡ 4 + (j - 4) = omega arith in rw z (low_below m 8 4 h (j - 4) (omega arith) (omega arith))

  module _ (small : (i : ℕ) → get_or bytes i 0 < 256) where
    clear_tail : (m : ℕ) → is_clear_from (4 + m) bytes ≡ true → tail_of bytes < 2 ^ (8 * m)
    clear_tail m e = below_low small m 8 4 (λ j u l. clear_at (4 + m) bytes e (4 + j) (omega arith) (omega arith))

    pub tail_below : (m : ℕ) → ltb (tail_of bytes) (2 ^ (8 * m)) ≡ is_clear_from (4 + m) bytes
    tail_below m = bool_eq _ _ (λ e. tail_clear m (ltb-true (tail_of bytes) (2 ^ (8 * m)) e)) (λ e. lt-ltb (tail_of bytes) (2 ^ (8 * m)) (clear_tail m e))

    pub tail_none : eqb (tail_of bytes) 0 ≡ is_clear_from 4 bytes
    tail_none = bool_eq _ _
        (λ e. let h : tail_of bytes ≡ 0 = eqb-true _ _ e in tail_clear 0 (omega arith))
        (λ e. let h : tail_of bytes < 1 = clear_tail 0 e in eq-eqb (tail_of bytes) 0 (omega arith))

    -- ---- a record that is no write: by the three bytes behind its kind and the last eight

    front_clear : (m : ℕ) → m ≤ 3 → both (eqb (tail_of bytes) 0) (ltb (front_of bytes) (2 ^ (8 * m))) ≡ true → is_clear_from (1 + m) bytes ≡ true
    front_clear m h e = clear_all (1 + m) bytes at_front
      where
        at_front : (j : ℕ) → 1 + m ≤ j → j < record_length → get_or bytes j 0 ≡ 0
        at_front j u l = elim (dec_lt j 4) [
          | yes b ↦ let z : j ≡ 1 + (j - 1) = omega arith in
              rw z (low_below m 3 1 (ltb-true (front_of bytes) (2 ^ (8 * m)) (both_r _ _ e)) (j - 1) (omega arith) (omega arith))
          | no b ↦ clear_at 4 bytes (sym tail_none ∙ both_l _ _ e) j (omega arith) l
        ]

    clear_front : (m : ℕ) → m ≤ 3 → is_clear_from (1 + m) bytes ≡ true → both (eqb (tail_of bytes) 0) (ltb (front_of bytes) (2 ^ (8 * m))) ≡ true
    clear_front m h e =
        let at : (j : ℕ) → 1 + m ≤ j → j < record_length → get_or bytes j 0 ≡ 0 = clear_at (1 + m) bytes e in
        both_i (tail_none ∙ clear_all 4 bytes (λ j u l. at j (omega arith) l))
        (lt-ltb (front_of bytes) (2 ^ (8 * m)) (below_low small m 3 1 (λ j u l. at (1 + j) (omega arith) (omega arith))))

    pub front_below : (m : ℕ) → m ≤ 3 → both (eqb (tail_of bytes) 0) (ltb (front_of bytes) (2 ^ (8 * m))) ≡ is_clear_from (1 + m) bytes
    front_below m h = bool_eq _ _ (front_clear m h) (clear_front m h)

    -- .. where it uses 1 + m bytes in an edition
    front_record : (e : file.Edition) (m : ℕ) → m ≤ 3 → used_bytes e.forms bytes ≡ 1 + m → both (eqb (tail_of bytes) 0) (ltb (front_of bytes) (2 ^ (8 * m))) ≡ is_record e bytes
    front_record e m h u = record_by e (1 + m) bytes _ (front_below m h) u (omega arith)

    -- .. where it uses none
    no_record_lem : (e : file.Edition) → used_bytes e.forms bytes ≡ 0 → is_record e bytes ≡ false
    unfolding is_record
    no_record_lem e u = both_left _ _ (rw u)

    none_below : (e : file.Edition) → used_bytes e.forms bytes ≡ 0 → both (eqb (tail_of bytes) 0) (ltb (front_of bytes) 0) ≡ is_record e bytes
    none_below e u = both_right _ _ (le-ltb (front_of bytes) 0 (omega arith)) ∙ sym (no_record_lem e u)

    -- .. where it is a line: 0 or 1 behind its kind, and zeros
    line_record : (e : file.Edition) → used_bytes e.forms bytes ≡ line_bytes bytes → both (eqb (tail_of bytes) 0) (ltb (front_of bytes) 2) ≡ is_record e bytes
    unfolding line_bytes low_first
    line_record e u = split (ltb (get_or bytes 1 0) 2)
        (λ t.
        let b : get_or bytes 1 0 < 2 = ltb-true (get_or bytes 1 0) 2 t in
        ap (both (eqb (tail_of bytes) 0)) (bool_eq _ _
        (λ h. let g : front_of bytes < 2 = ltb-true _ _ h in lt-ltb (front_of bytes) (2 ^ (8 * 1)) (omega arith))
        (λ h. let g : front_of bytes < 256 = ltb-true _ _ h in lt-ltb (front_of bytes) 2 (omega arith)))
        ∙ front_record e 1 (omega arith) (u ∙ pick_true _ _ t))
        (λ t.
        let b : 2 ≤ get_or bytes 1 0 = ltb-false (get_or bytes 1 0) 2 t in
        ap (both (eqb (tail_of bytes) 0)) (le-ltb (front_of bytes) 2 (omega arith) ∙ sym (le-ltb (front_of bytes) 0 (omega arith))) ∙ none_below e (u ∙ pick-false _ _ t))

    -- ---- by kind and edition

    -- each kind's limit says whether it is one
    condition_is : (e : Edition) → kind_of bytes ≡ condition_kind → both (eqb (tail_of bytes) 0) (ltb (front_of bytes) (condition_limit (edition_number e))) ≡ is_record (row_of e) bytes
    unfolding edition_among used_bytes condition_limit pick either
    condition_is First k = front_record (row_of First) 2 (omega arith) (rw k)
    condition_is Second k = front_record (row_of Second) 2 (omega arith) (rw k)
    condition_is Third k = front_record (row_of Third) 3 (omega arith) (rw k)
    condition_is Fourth k = front_record (row_of Fourth) 3 (omega arith) (rw k)

    module_is : (e : Edition) → kind_of bytes ≡ module_kind → both (eqb (tail_of bytes) 0) (ltb (front_of bytes) (power_limit (edition_number e) 1)) ≡ is_record (row_of e) bytes
    unfolding edition_among used_bytes power_limit pick
    module_is First k = none_below (row_of First) (rw k)
    module_is Second k = none_below (row_of Second) (rw k)
    module_is Third k = none_below (row_of Third) (rw k)
    module_is Fourth k = front_record (row_of Fourth) 0 (omega arith) (rw k)

    line_is : (e : Edition) → kind_of bytes ≡ line_kind → both (eqb (tail_of bytes) 0) (ltb (front_of bytes) (power_limit (edition_number e) 2)) ≡ is_record (row_of e) bytes
    unfolding edition_among used_bytes power_limit pick
    line_is First k = none_below (row_of First) (rw k)
    line_is Second k = none_below (row_of Second) (rw k)
    line_is Third k = none_below (row_of Third) (rw k)
    line_is Fourth k = line_record (row_of Fourth) (rw k)

    -- a number that is no kind's
    module _ (h : 0 < kind_of bytes → line_kind < kind_of bytes) where
      none_used : (e : Edition) → used_bytes (row_of e).forms bytes ≡ 0
      unfolding edition_among used_bytes pick
      none_used First = simp (no_kind _ h)
      none_used Second = simp (no_kind _ h)
      none_used Third = simp (no_kind _ h)
      none_used Fourth = simp (no_kind _ h)

      pub none_is : (e : Edition) → is_record (row_of e) bytes ≡ false
      none_is e = no_record_lem (row_of e) (none_used e)

    -- every kind but a write
    pub front_is : (e : Edition) (k : Kind) → number_of k ≡ kind_of bytes → k ≢ Write → both (eqb (tail_of bytes) 0) (ltb (front_of bytes) (front_limit (edition_number e) k)) ≡ is_record (row_of e) bytes
    unfolding used_bytes pick
    front_is e Write k n = absurd (n refl)
    front_is e Read k n = front_record (row_of e) 2 (omega arith) (rw ((six_forms (edition_number e)).forms, ← k))
    front_is e Work k n = front_record (row_of e) 1 (omega arith) (rw ((six_forms (edition_number e)).forms, ← k))
    front_is e Hardware k n = front_record (row_of e) 1 (omega arith) (rw ((six_forms (edition_number e)).forms, ← k))
    front_is e Condition k n = condition_is e (sym k)
    front_is e Sample k n = front_record (row_of e) 3 (omega arith) (rw ((six_forms (edition_number e)).forms, ← k))
    front_is e Module k n = module_is e (sym k)
    front_is e Line k n = line_is e (sym k)
