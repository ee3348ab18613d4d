-- Laws of a place of a byte list: what this place, another one, and each bit hold after a put. Assumes nothing.
use mathlib.Core.Path.{◌≡◌, refl, sym, ap, ◌∙◌}
use mathlib.Core.Bool.{true, false}
use mathlib.Core.List.{List}
use mathlib.Core.Logic.{◌⊎◌, inl, inr, ◌≢◌}
use Prim.Native.Nat.{ℕ, ◌+◌, ◌-◌, ◌%◌, ◌^◌, ◌≤◌, ◌<◌}
use native.Mathlib.Nat.{mod-eq_of_lt}
use native.Mathlib.Decide.{ℕ_discrete, dec_lt}
use native.Mathlib.Omega.{arith}
use borrow.Author.Tests.{ltb-true, leb-true, eqb-true, lt-ltb, le-leb, eq-eqb, ne_eqb}
use lib.ListN.{length, get_or, length-set}
use lib.Seq.{set_out, get_or-set_same, get_or-set_other, set-set, set-get_or, ext_get_or}
use Rattle.bits.specs.declared.Place.{Place}
use Rattle.bits.specs.Number.{field, with_field}
use Rattle.bits.specs.Place.{get, put, apart, digit, covers}
use Rattle.bits.proofs.Tests.{split, clash, both_l, both_r, both_i, either_cases, either_i_l, either_i_r}
use Rattle.bits.proofs.Number as Number
use Rattle.bits.proofs.Number.{Clear, got_lt, number_ext, field_ext}

pub get-lt : (im : List ℕ) (p : Place) → get im p < 2 ^ p.width
unfolding get
get-lt im p = got_lt (get_or im p.byte 0) p.shift p.width

-- putting what is there changes nothing
pub put_got : (im : List ℕ) (p : Place) → put im p (get im p) ≡ im
unfolding get put
put_got im p = rw (Number.back (get_or im p.byte 0) p.shift p.width) (set-get_or im p.byte 0)

-- places in one byte that are apart are clear of each other
apart_clear : (p q : Place) → apart p q ≡ true → p.byte ≡ q.byte → Clear p.shift p.width q.shift q.width
unfolding apart
apart_clear p q a e = elim (either_cases _ _ a) [
  | inl n ↦ absurd (clash n (rw (eq-eqb _ _ e)))
  | inr c ↦ elim (either_cases _ _ c) [ inl l ↦ inl (leb-true _ _ l) | inr l ↦ inr (leb-true _ _ l) ]
]

pub apart_sym : (p q : Place) → apart p q ≡ true → apart q p ≡ true
unfolding apart
apart_sym p q a = elim (ℕ_discrete q.byte p.byte) [
  | no n ↦ either_i_l _ _ (rw (ne_eqb _ _ n))
  | yes e ↦ either_i_r _ _ (elim (apart_clear p q a (sym e)) [
    | inl l ↦ either_i_r _ _ (le-leb _ _ l)
    | inr l ↦ either_i_l _ _ (le-leb _ _ l)
  ])
]

module _ (im : List ℕ) (p : Place) (v : ℕ) where
  pub length-put : length (put im p v) ≡ length im
  unfolding put
  length-put = length-set im p.byte _

  -- past the end nothing is put
  pub put_outside : length im ≤ p.byte → put im p v ≡ im
  unfolding put
  put_outside l = set_out im p.byte _ l

  -- a put changes one byte
  pub byte_put_lem : p.byte < length im → get_or (put im p v) p.byte 0 ≡ with_field (get_or im p.byte 0) p.shift p.width v
  unfolding put
  byte_put_lem l = get_or-set_same im p.byte _ 0 l

  pub byte_other : (j : ℕ) → j ≢ p.byte → get_or (put im p v) j 0 ≡ get_or im j 0
  unfolding put
  byte_other j n = get_or-set_other im p.byte j _ 0 n

  -- what was put is there, as far as it fits
  pub get-put : p.byte < length im → get (put im p v) p ≡ v % 2 ^ p.width
  unfolding get
  get-put l = rw (byte_put_lem l) (Number.same (get_or im p.byte 0) p.shift p.width v)

  pub get-put-fits : p.byte < length im → v < 2 ^ p.width → get (put im p v) p ≡ v
  get-put-fits l h = get-put l ∙ mod-eq_of_lt h

  -- a place that is apart keeps its value
  pub get-apart : (q : Place) → apart p q ≡ true → get (put im p v) q ≡ get im q
  unfolding get
  get-apart q a = elim (ℕ_discrete q.byte p.byte) [
    | no n ↦ rw (byte_other q.byte n)
    | yes e ↦ elim (dec_lt p.byte (length im)) [
      | yes l ↦ rw (e, byte_put_lem l) (Number.kept (get_or im p.byte 0) p.shift p.width v q.shift q.width (apart_clear p q a (sym e)))
      | no l ↦ rw (put_outside (omega arith))
    ]
  ]

  -- the last put wins
  pub put-put : (u : ℕ) → put (put im p v) p u ≡ put im p u
  unfolding put
  put-put u = elim (dec_lt p.byte (length im)) [
    | yes l ↦ rw (get_or-set_same im p.byte (with_field (get_or im p.byte 0) p.shift p.width v) 0 l, set-set, Number.again)
    | no l ↦ rw (set_out im p.byte (with_field (get_or im p.byte 0) p.shift p.width v) (omega arith))
  ]

-- every byte is one
abbrev pub Bytes : List ℕ → Type 0
Bytes im = (k : ℕ) → get_or im k 0 < 256

pub bytes-put : (im : List ℕ) (p : Place) (v : ℕ) → p.width + p.shift ≤ 8 → Bytes im → Bytes (put im p v)
bytes-put im p v f b k = elim (ℕ_discrete k p.byte) [
  | no n ↦ rw (byte_other im p v k n) (b k)
  | yes e ↦ elim (dec_lt p.byte (length im)) [
    | yes l ↦ rw (e, byte_put_lem im p v l) (Number.stays (get_or im p.byte 0) p.shift p.width v 8 f (b p.byte))
    | no l ↦ rw (put_outside im p v (omega arith)) (b k)
  ]
]

-- ---- bits
-- bit b of byte i is in the place
pub record In (p : Place) (i b : ℕ) : Type 0 where
  pub here : p.byte ≡ i
  pub from : p.shift ≤ b
  pub to : b < p.shift + p.width

pub covers_in : (p : Place) (i b : ℕ) → covers p i b ≡ true → In p i b
unfolding covers
covers_in p i b e =
    record {
      here = eqb-true _ _ (both_l _ _ e);
      from = leb-true _ _ (both_l _ _ (both_r _ _ e));
      to = ltb-true _ _ (both_r _ _ (both_r _ _ e));
    }

pub in_covers : {p : Place} {i b : ℕ} → In p i b → covers p i b ≡ true
unfolding covers
in_covers h = both_i (eq-eqb _ _ h.here) (both_i (le-leb _ _ h.from) (lt-ltb _ _ h.to))

-- no bit is in two places that are apart
pub apart-covers : (p q : Place) (i b : ℕ) → apart p q ≡ true → covers p i b ≡ true → covers q i b ≡ false
apart-covers p q i b a c = split (covers q i b)
    (λ d. let h : In p i b = covers_in p i b c in let k : In q i b = covers_in q i b d in
    elim (apart_clear p q a (h.here ∙ sym k.here)) [ inl l ↦ absurd (omega arith) | inr l ↦ absurd (omega arith) ])
    (λ d. d)

-- a bit beside the place stays
pub digit-put-out : (im : List ℕ) (p : Place) (v i b : ℕ) → covers p i b ≡ false → digit (put im p v) i b ≡ digit im i b
unfolding digit
digit-put-out im p v i b e = elim (ℕ_discrete i p.byte) [
  | no n ↦ rw (byte_other im p v i n)
  | yes q ↦ elim (dec_lt p.byte (length im)) [
    | yes l ↦ rw (q, byte_put_lem im p v l) (Number.digit-out (get_or im p.byte 0) p.shift p.width v b (beside q))
    | no l ↦ rw (put_outside im p v (omega arith))
  ]
]
  where
    beside : i ≡ p.byte → (b < p.shift) ⊎ (p.shift + p.width ≤ b)
    beside q = elim (dec_lt b p.shift) [
      | yes l ↦ inl l
      | no l ↦ elim (dec_lt b (p.shift + p.width)) [
        | yes k ↦ absurd (clash (in_covers (record { here = sym q; from = omega arith; to = k })) e)
        | no k ↦ inr (omega arith)
      ]
    ]

-- a bit in the place is the put value's
pub digit-put_in : (im : List ℕ) (p : Place) (v i b : ℕ) → p.byte < length im → covers p i b ≡ true → digit (put im p v) i b ≡ field v (b - p.shift) 1
unfolding digit
digit-put_in im p v i b l c =
    let h : In p i b = covers_in p i b c in
    rw (← h.here, byte_put_lem im p v l) (Number.digit_in (get_or im p.byte 0) p.shift p.width v b h.from h.to)

-- one put into two lists that agree at a bit
pub put-same-digit : (x y : List ℕ) (p : Place) (v i b : ℕ) → length x ≡ length y → digit x i b ≡ digit y i b → digit (put x p v) i b ≡ digit (put y p v) i b
put-same-digit x y p v i b n e = elim (dec_lt p.byte (length x)) [
  | yes l ↦ split (covers p i b)
      (λ c. digit-put_in x p v i b l c ∙ sym (digit-put_in y p v i b (omega arith) c))
      (λ c. digit-put-out x p v i b c ∙ e ∙ sym (digit-put-out y p v i b c))
  | no l ↦ rw (put_outside x p v (omega arith), put_outside y p v (omega arith)) e
]

-- lists that agree on a place's bits hold the same there
pub get_ext : (x y : List ℕ) (p : Place) → ((i b : ℕ) → covers p i b ≡ true → digit x i b ≡ digit y i b) → get x p ≡ get y p
unfolding get digit
get_ext x y p h = field_ext (get_or x p.byte 0) (get_or y p.byte 0) p.shift p.shift p.width
    (λ b l. h p.byte (p.shift + b) (in_covers (record { here = refl; from = omega arith; to = omega arith })))

-- .. and the other way round
pub digit_ext : (x y : List ℕ) (p : Place) (i b : ℕ) → get x p ≡ get y p → covers p i b ≡ true → digit x i b ≡ digit y i b
unfolding get digit
digit_ext x y p i b e c = one x ∙ ap (λ n. field n (b - p.shift) 1) e ∙ sym (one y)
  where
    h : In p i b
    h = covers_in p i b c

    one : (z : List ℕ) → field (get_or z i 0) b 1 ≡ field (field (get_or z p.byte 0) p.shift p.width) (b - p.shift) 1
    one z = let e : p.shift + (b - p.shift) ≡ b = omega (arith, h.from) in
        rw (← h.here) (sym (Number.digit-of-field (get_or z p.byte 0) p.shift p.width (b - p.shift) (omega (arith, h.from, h.to)) ∙ rw e))

-- lists of the same bits are the same
pub image_ext : (x y : List ℕ) → length x ≡ length y → ((i b : ℕ) → digit x i b ≡ digit y i b) → x ≡ y
unfolding digit
image_ext x y n h = ext_get_or 0 x y n (λ i l. number_ext (get_or x i 0) (get_or y i 0) (h i))

-- puts in two places that are apart commute
pub put_comm : (im : List ℕ) (p q : Place) (v u : ℕ) → apart p q ≡ true → put (put im p v) q u ≡ put (put im q u) p v
put_comm im p q v u a = image_ext _ _ (simp length-put) (λ i b. split (covers p i b)
    (λ c. let d : covers q i b ≡ false = apart-covers p q i b a c in
    digit-put-out (put im p v) q u i b d ∙ put-same-digit im (put im q u) p v i b (rw length-put) (sym (digit-put-out im q u i b d)))
    (λ c. put-same-digit (put im p v) im q u i b (rw length-put) (digit-put-out im p v i b c) ∙ sym (digit-put-out (put im q u) p v i b c)))
