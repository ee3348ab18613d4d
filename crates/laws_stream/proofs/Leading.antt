-- The good records that come first, as propositions: how many there are, and which they are. Assumes nothing.
use mathlib.Core.Path.{◌≡◌, refl, sym, ap, ◌∙◌, subst}
use mathlib.Core.Bool.{true, false}
use mathlib.Core.List.{◌∷◌}
use mathlib.Core.Logic.{◌⊎◌, inl, inr}
use Prim.Native.Nat.{zero, suc, ◌+◌, ◌-◌, ◌*◌, ◌≤◌, ◌<◌}
use native.Mathlib.Omega.{arith}
use lib.Dec.{leb}
use lib.ListN.{length, take, drop, length-drop}
use lib.Seq.{drop-drop}
use borrow.Author.Tests.{leb-true, leb-false, le-leb, lt-leb}
use Rattle.bits.specs.Choice.{both}
use Rattle.bits.specs.Loop.{tab}
use Rattle.bits.proofs.Tests.{split, both_l, both_r, both_i, pick_true, pick-false}
use Rattle.bits.proofs.Loops.{tab_ext, length-tab}
use Rattle.model.specs.Numbers.{Bytes, Count, RecordIndex}
use Rattle.model.specs.File.{Edition, record_length, is_record}
use Rattle.model.specs.Stream.{leading_records}
use Rattle.laws_stream.proofs.Streamed.{is_first_lem}

-- the bytes of record k of some
unfoldable pub part : Bytes → RecordIndex → Bytes
part bytes k = take record_length (drop (record_length * k) bytes)

-- of n records the first k are whole and well-formed, and no more
pub record Leading (e : Edition) (n : Count) (bytes : Bytes) (k : Count) : Type 0 where
  pub within : k ≤ n
  pub whole : record_length * k ≤ length bytes
  pub good : (j : RecordIndex) → j < k → is_record e (part bytes j) ≡ true
  pub stops : k < n → (length bytes < record_length * suc k) ⊎ (is_record e (part bytes k) ≡ false)

part_next : (bytes : Bytes) (k : RecordIndex) → part (drop record_length bytes) k ≡ part bytes (suc k)
unfolding part
part_next bytes k = let q : record_length + record_length * k ≡ record_length * suc k = omega arith in
    ap (take record_length) (drop-drop (record_length * k) record_length bytes ∙ ap (λ n. drop n bytes) q)

module _ (e : Edition) where
  -- after the first
  rest_leading : (n : Count) (bytes : Bytes) (k : Count) → Leading e (suc n) bytes (suc k) → Leading e n (drop record_length bytes) k
  rest_leading n bytes k L =
      let d : length (drop record_length bytes) ≡ length bytes - record_length = length-drop record_length bytes in
      record {
        within = omega (arith, L.within);
        whole = omega (arith, L.whole);
        good = λ j b. rw (part_next bytes j) (L.good (suc j) (omega arith));
        stops = λ b. elim (L.stops (omega arith)) [
          | inl s ↦ inl (omega (arith, L.whole))
          | inr s ↦ inr (rw (part_next bytes k) s)
        ];
      }

  leading_first : (n : Count) (bytes : Bytes) (k : Count) → Leading e n bytes (suc k) → is_first_lem e bytes ≡ true
  unfolding is_first_lem part
  leading_first n bytes k L = both_i (le-leb record_length (length bytes) (omega (arith, L.whole))) (L.good 0 (omega arith))

  leading_none : (n : Count) (bytes : Bytes) → Leading e (suc n) bytes 0 → is_first_lem e bytes ≡ false
  unfolding is_first_lem part both
  leading_none n bytes L = elim (L.stops (omega arith)) [
    | inl s ↦ rw (lt-leb record_length (length bytes) s)
    | inr s ↦ split (leb record_length (length bytes)) (λ l. rw (l, both) s) (λ l. rw (l, both))
  ]

  -- they are the ones that the model says
  pub leading_are : (n : Count) (bytes : Bytes) (k : Count) → Leading e n bytes k → leading_records e n bytes ≡ tab k (part bytes)
  unfolding leading_records tab is_first_lem part
  leading_are zero bytes zero L = refl
  leading_are zero bytes (suc k) L = absurd (omega (arith, L.within))
  leading_are (suc n) bytes zero L = pick-false _ _ (leading_none n bytes L)
  leading_are (suc n) bytes (suc k) L =
      pick_true _ _ (leading_first (suc n) bytes k L)
      ∙ ap (λ rs. take record_length bytes ∷ rs)
      (leading_are n (drop record_length bytes) k (rest_leading n bytes k L) ∙ tab_ext k (part (drop record_length bytes)) (λ j. part bytes (suc j)) (λ j b. part_next bytes j))

  first_good : (bytes : Bytes) (k : Count) → is_first_lem e bytes ≡ true → ((j : RecordIndex) → j < k → is_record e (part (drop record_length bytes) j) ≡ true)
      → (j : RecordIndex) → j < suc k → is_record e (part bytes j) ≡ true
  unfolding is_first_lem part
  first_good bytes k f good zero b = both_r _ _ f
  first_good bytes k f good (suc j) b = rw (part_next bytes j) at (good j (omega arith))

  one_more : (n : Count) (bytes : Bytes) (k : Count) → is_first_lem e bytes ≡ true → Leading e n (drop record_length bytes) k → Leading e (suc n) bytes (suc k)
  unfolding is_first_lem
  one_more n bytes k f L =
      let d : length (drop record_length bytes) ≡ length bytes - record_length = length-drop record_length bytes in
      let l : record_length ≤ length bytes = leb-true _ _ (both_l _ _ f) in
      record {
        within = omega (arith, L.within);
        whole = omega (arith, L.whole);
        good = first_good bytes k f L.good;
        stops = λ b. elim (L.stops (omega arith)) [
          | inl s ↦ inl (omega arith)
          | inr s ↦ inr (rw (part_next bytes k) at s)
        ];
      }

  no_more : (n : Count) (bytes : Bytes) → is_first_lem e bytes ≡ false → Leading e n bytes 0
  unfolding is_first_lem part both
  no_more n bytes f = record {
    within = omega arith;
    whole = omega arith;
    good = λ j b. absurd (omega arith);
    stops = λ b. split (leb record_length (length bytes)) (λ l. inr (rw (l, both) at f)) (λ l. inl (leb-false _ _ l));
  }

  some_leading : (n : Count) (bytes : Bytes) → (k : Count) × Leading e n bytes k
  some_leading zero bytes = (0, record { within = omega arith; whole = omega arith; good = λ j b. absurd (omega arith); stops = λ b. absurd (omega arith) })
  some_leading (suc n) bytes = split (is_first_lem e bytes)
      (λ f. let r = some_leading n (drop record_length bytes) in (suc r.0, one_more n bytes r.0 f r.1))
      (λ f. (0, no_more (suc n) bytes f))

  -- there are as many
  pub leading_count : (n : Count) (bytes : Bytes) → Leading e n bytes (length (leading_records e n bytes))
  leading_count n bytes =
      let r = some_leading n bytes in
      subst (Leading e n bytes) (sym (ap length (leading_are n bytes r.0 r.1) ∙ length-tab r.0 (part bytes))) r.1
