-- Where the triggers stand: what their lookup finds is a row of the table, and what holds for every row. Assumes nothing.
use Rattle.std.proofs.Common.{None, Some}
use mathlib.Core.Path.{◌≡◌, refl}
use mathlib.Core.Bool.{Bool, true, false, not}
use mathlib.Core.List.{List, [], ◌∷◌}
use mathlib.Core.Logic.{◌⊎◌, inl, inr}
use Prim.Native.Nat.{ℕ, ◌+◌, ◌≤◌, ◌<◌}
use native.Mathlib.Omega.{arith}
use lib.Dec.{eqb, leb}
use borrow.Author.Tests.{eqb-true, leb-true, not-false, not-true}
use Rattle.bits.specs.Choice.{both, either}
use Rattle.bits.specs.Loop.{Among, any_of}
use Rattle.bits.proofs.Tests.{split, clash, both_l, both_r, pick_true, pick-false}
use Rattle.bits.proofs.Members.{any_of-none}
use Rattle.model.specs.Map.{TriggerRow, triggers, find_trigger, trigger_at, staged_base, in_ranges, writable, page10, active_set, set_length}
use Rattle.model.specs.declared.lane.StagedSet.{StagedSet}
use Rattle.model.specs.declared.lane.StagedSet.TheVariants.{Set0, Set1}
use Rattle.model.specs.declared.lane.Apply.{Apply}

-- ---- the lookup goes by the list

abbrev pub FoundAt : List TriggerRow → ℕ → Type 0
FoundAt rows i = ((row : TriggerRow) × Among row rows × (i ≡ row.place) × (find_trigger rows i ≡ Some row.apply)) ⊎ (find_trigger rows i ≡ None)

past_first : (row : TriggerRow) (rows : List TriggerRow) (i : ℕ) → eqb i row.place ≡ false → FoundAt rows i → FoundAt (row ∷ rows) i
unfolding Among find_trigger
past_first row rows i e (inl (r, m, t, f)) = inl (r, inr m, t, rw (pick-false _ _ e) f)
past_first row rows i e (inr f) = inr (rw (pick-false _ _ e) f)

found : (rows : List TriggerRow) (i : ℕ) → FoundAt rows i
unfolding Among find_trigger
found [] i = inr refl
found (row ∷ rows) i = split (eqb i row.place)
    (λ e. inl (row, inl refl, eqb-true _ _ e, pick_true _ _ e))
    (λ e. past_first row rows i e (found rows i))

-- ---- where the staged sets lie

-- a base whose set lies between lower memory and the active settings
abbrev pub StagedBase : ℕ → Type 0
StagedBase base = (page10 ≤ base) × (base + set_length ≤ active_set)

pub staged_base_lem : (set : StagedSet) → StagedBase (staged_base set)
staged_base_lem Set0 = (omega arith, omega arith)
staged_base_lem Set1 = (omega arith, omega arith)

-- ---- what holds for every row

-- a trigger lies past page 10h's start, and keeps nothing of what is written to it
unfoldable fits : TriggerRow → Bool
fits row = both (leb page10 row.place) (not (writable row.place))

all_fit : any_of triggers (λ row. not (fits row)) ≡ false
unfolding any_of fits writable in_ranges both either
all_fit = refl

pub record IsTrigger (i : ℕ) : Type 0 where
  pub late : page10 ≤ i
  pub kept : writable i ≡ false

-- a place is no trigger's, or it is one's, with all that holds for every row
pub by_row : (i : ℕ) → ((a : Apply) × (trigger_at i ≡ Some a) × IsTrigger i) ⊎ (trigger_at i ≡ None)
unfolding trigger_at fits
by_row i = elim (found triggers i) [
  | inl (row, m, e, f) ↦
      let t = not-false _ (any_of-none (λ row. not (fits row)) triggers row all_fit m) in
      inl (row.apply, f, record { late = rw e (leb-true _ _ (both_l _ _ t)); kept = rw e (not-true _ (both_r _ _ t)) })
  | inr f ↦ inr f
]

pub at_row : (i : ℕ) (a : Apply) → trigger_at i ≡ Some a → IsTrigger i
at_row i a e = elim (by_row i) [
  | inl (b, f, t) ↦ t
  | inr f ↦ let z : ◌≡◌ {A = ℕ} 0 1 = cc in absurd (omega arith)
]

-- a place before page 10h is no trigger's, and neither is one that keeps what is written to it
pub no_trigger_below : (i : ℕ) → i < page10 → trigger_at i ≡ None
no_trigger_below i h = elim (by_row i) [
  | inl (a, e, t) ↦ absurd (omega (arith, t.late))
  | inr e ↦ e
]

pub no_trigger-stored : (i : ℕ) → writable i ≡ true → trigger_at i ≡ None
no_trigger-stored i w = elim (by_row i) [
  | inl (a, e, t) ↦ absurd (clash w t.kept)
  | inr e ↦ e
]
