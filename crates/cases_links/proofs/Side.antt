-- The test of two runs side by side means what it says. Assumes nothing.
use Rattle.std.proofs.Common.{None, Some, Option}
use mathlib.Core.Path.{◌≡◌, refl, sym, ◌∙◌}
use mathlib.Core.Bool.{Bool, true, false, not}
use mathlib.Core.List.{List, [], ◌∷◌}
use mathlib.Core.Logic.{inl, inr}
use Prim.Native.Nat.{ℕ, suc}
use native.Mathlib.Decide.{dec_lt}
use native.Mathlib.Omega.{arith}
use lib.ListN.{get_or, take}
use borrow.Author.Tests.{eqb-true, eqb-false, leb-true, ltb-true, lt-ltb, not-true}
use Rattle.bits.specs.Choice.{same}
use Rattle.bits.specs.Place.{digit}
use Rattle.bits.proofs.Tests.{clash, both_l, both_r, both_i, either_cases, implies_use}
use Rattle.bits.proofs.Number.{field_past}
use Rattle.bits.proofs.Loops.{all_at}
use Rattle.model.specs.State.{State}
use Rattle.model.specs.View.{View}
use Rattle.model.specs.declared.event.Call.{Call}
use Rattle.model.specs.declared.event.Call.TheVariants.{Write, Read, Work, Hardware, Condition, Sample, Lasting, Module, Line}
use Rattle.model.specs.declared.event.Event.{Event}
use Rattle.model.specs.declared.lane.Apply.{Apply}
use Rattle.laws_links.specs.Links.{Inside, OnlyOf, SameBytes, ConcernsAt, Concerns, SameCalls, OwnCall, PathsParted, GroupsParted, ByteParted, BytesParted, CallParted, Parted, Supposed}
use Rattle.cases_links.specs.Side.{Side, shared, of_first, of_second, laid_out, paths_test, groups_test, byte_test, bytes_test, call_test, parted_test, is_inside, only_test, shared_test, concerns_test, own_bytes_test, own_test, module_test, supposed_test}

same_means : (a b : Bool) → same a b ≡ true → a ≡ b
unfolding same
same_means true true e = refl
same_means true false e = absurd (clash e refl)
same_means false true e = absurd (clash e refl)
same_means false false e = refl

module _ (A : ℕ) where
  paths_mean : (x : List ℕ) → paths_test A x ≡ true → PathsParted A x
  unfolding paths_test
  paths_mean x e l m h k s = same_means _ _ (implies_use _ _ (all_at 8 _ (all_at 8 _ e l h) m k) s)

  groups_mean : (v : View) (sel : ℕ) → groups_test A v sel ≡ true → GroupsParted A v sel
  unfolding groups_test
  groups_mean v sel e l m h k s g = same_means _ _ (implies_use _ _ (all_at 8 _ (all_at 8 _ e l h) m k) (both_i s g))

  byte_means : (place : Option Apply) (s : State) (v : ℕ) → byte_test place A s v ≡ true → ByteParted place A s v
  unfolding byte_test
  byte_means None s v e = tt
  byte_means (Some a) s v e = λ n. elim (either_cases _ _ e) [
    | inl i ↦ absurd (clash i n)
    | inr g ↦ groups_mean _ v g
  ]

  bytes_mean : (vs : List ℕ) (address : ℕ) (s : State) → bytes_test A s address vs ≡ true → BytesParted A s address vs
  unfolding bytes_test BytesParted
  bytes_mean [] address s e = tt
  bytes_mean (v ∷ vs) address s e = (byte_means _ s v (both_l _ _ e), bytes_mean vs (suc address) _ (both_r _ _ e))

  call_means : (s : State) (vs : List ℕ) (c : Call) → call_test A s vs c ≡ true → CallParted A s vs c
  unfolding call_test
  call_means s vs (Write address count) e = bytes_mean (take count vs) address s e
  call_means s vs (Read address count) e = tt
  call_means s vs (Work l) e = tt
  call_means s vs (Hardware l) e = tt
  call_means s vs (Condition flag mask) e = tt
  call_means s vs (Sample l p) e = tt
  call_means s vs (Lasting flag on off) e = tt
  call_means s vs Module e = tt
  call_means s vs (Line on) e = tt

  parted_means : (s : State) (e : Event) → parted_test A s e ≡ true → Parted A s e
  unfolding parted_test
  parted_means s e t = record { paths = paths_mean s.image (both_l _ _ t); groups = call_means s e.bytes e.call (both_r _ _ t) }

  -- ---- what is allowed

  inside_means : (l : ℕ) → is_inside A l ≡ true → Inside A l
  unfolding is_inside
  inside_means l e = (ltb-true _ _ (both_l _ _ e), both_r _ _ e)

  outside_means : (l : ℕ) → not (is_inside A l) ≡ true → Inside A l → ⊥
  unfolding is_inside
  outside_means l e i = clash (both_i (lt-ltb l 8 i.0) i.1) (not-true _ e)

  only_means : (m : ℕ) → only_test A m ≡ true → OnlyOf A m
  unfolding only_test
  only_means m e l o = elim (either_cases _ _ (all_at 8 _ e l o.0)) [
    | inl a ↦ absurd (clash a o.1)
    | inr n ↦ not-true _ n
  ]

  bytes_same : (vs : List ℕ) (address : ℕ) (s : State) → SameBytes A s address vs vs
  unfolding SameBytes
  bytes_same [] address s = tt
  bytes_same (v ∷ vs) address s = (λ b e. refl, bytes_same vs (suc address) _)

  shared_means : (s : State) (vs : List ℕ) (c : Call) → shared_test A c ≡ true → SameCalls A s vs vs c c
  unfolding shared_test
  shared_means s vs (Write address count) e = (refl, bytes_same (take count vs) address s)
  shared_means s vs (Read address count) e = refl
  shared_means s vs (Work l) e = (refl, outside_means l e)
  shared_means s vs (Hardware l) e = (refl, outside_means l e)
  shared_means s vs (Condition flag mask) e = (mask, refl, λ l o. refl)
  shared_means s vs (Sample l p) e = (refl, outside_means l e)
  shared_means s vs (Lasting flag on off) e = (on, off, refl, λ l o. refl, λ l o. refl)
  shared_means s vs Module e = refl
  shared_means s vs (Line on) e = refl

  concerns_mean : (place : Option Apply) (s : State) (i v : ℕ) → concerns_test place A s i v ≡ true → ConcernsAt place A s i v
  unfolding concerns_test digit
  concerns_mean None s i v e = λ w b n.
      let t = implies_use _ _ e w in
      elim (dec_lt b 8) [
        | yes h ↦ elim (either_cases _ _ (all_at 8 _ (both_r _ _ t) b h)) [
          | inl y ↦ absurd (clash y n)
          | inr q ↦ eqb-true _ _ q
        ]
        | no h ↦ field_past v 8 b 1 (ltb-true _ _ (both_l _ _ (both_l _ _ t))) (omega arith)
            ∙ sym (field_past (get_or s.image i 0) 8 b 1 (ltb-true _ _ (both_r _ _ (both_l _ _ t))) (omega arith))
      ]
  concerns_mean (Some a) s i v e = only_means v e

  own-bytes_mean : (vs : List ℕ) (address : ℕ) (s : State) → own_bytes_test A s address vs ≡ true → Concerns A s address vs
  unfolding own_bytes_test Concerns
  own-bytes_mean [] address s e = tt
  own-bytes_mean (v ∷ vs) address s e =
      let f = both_l _ _ (both_l _ _ e) in
      let g = both_r _ _ (both_l _ _ e) in (
        eqb-false _ _ (not-true _ (both_l _ _ f)),
        eqb-false _ _ (not-true _ (both_r _ _ f)),
        eqb-false _ _ (not-true _ (both_l _ _ g)),
        concerns_mean _ s _ v (both_r _ _ g),
        own-bytes_mean vs (suc address) _ (both_r _ _ e),
      )

  own_means : (s : State) (vs : List ℕ) (c : Call) → own_test A s vs c ≡ true → OwnCall A s vs c
  unfolding own_test
  own_means s vs (Write address count) e = (leb-true _ _ (both_l _ _ e), own-bytes_mean (take count vs) address s (both_r _ _ e))
  own_means s vs (Read address count) e = clash e refl
  own_means s vs (Work l) e = inside_means l e
  own_means s vs (Hardware l) e = inside_means l e
  own_means s vs (Condition flag mask) e = only_means mask e
  own_means s vs (Sample l p) e = inside_means l e
  own_means s vs (Lasting flag on off) e = (only_means on (both_l _ _ e), only_means off (both_r _ _ e))
  own_means s vs Module e = clash e refl
  own_means s vs (Line on) e = clash e refl

  -- ---- along two runs

  pub supposed_means : (room : ℕ) (ms : List Side) (s t : State) → supposed_test A room s t ms ≡ true → Supposed A room s t (laid_out ms)
  unfolding supposed_test Supposed module_test
  supposed_means room [] s t e = tt
  supposed_means room (shared v ∷ ms) s t e =
      let f = both_l _ _ (both_l _ _ e) in
      let g = both_r _ _ (both_l _ _ e) in (
        parted_means s v (both_l _ _ f),
        parted_means t v (both_r _ _ f),
        shared_means s v.bytes v.call (both_l _ _ g),
        eqb-true _ _ (both_r _ _ g),
        supposed_means room ms _ _ (both_r _ _ e),
      )
  supposed_means room (of_first v ∷ ms) s t e =
      let g = both_r _ _ (both_l _ _ e) in
      (parted_means s v (both_l _ _ (both_l _ _ e)), own_means s v.bytes v.call (both_l _ _ g), eqb-true _ _ (both_r _ _ g), supposed_means room ms _ t (both_r _ _ e))
  supposed_means room (of_second v ∷ ms) s t e =
      let g = both_r _ _ (both_l _ _ e) in
      (parted_means t v (both_l _ _ (both_l _ _ e)), own_means t v.bytes v.call (both_l _ _ g), eqb-true _ _ (both_r _ _ g), supposed_means room ms s _ (both_r _ _ e))
