-- The bytes of a read, taken one by one. Assumes nothing.
use Rattle.std.proofs.Common.{None, Some}
use mathlib.Core.Path.{◌≡◌, refl, sym, ap, ◌∙◌}
use mathlib.Core.Bool.{false}
use mathlib.Core.List.{List, [], ◌∷◌}
use Prim.Native.Nat.{ℕ, zero, suc, ◌+◌, ◌<◌}
use native.Mathlib.Nat.{le_of_suc-le-suc, not-suc-le-zero}
use native.Mathlib.Numerals.{add-one}
use native.Mathlib.Omega.{arith}
use borrow.Author.Tests.{ne_eqb, leb-false}
use lib.ListN.{length, get_or, set}
use Rattle.bits.specs.Choice.{pick}
use Rattle.bits.specs.Loop.{tab}
use Rattle.bits.proofs.Tests.{either_l, either_r}
use Rattle.model.specs.Map.{Image, module_controls, trigger_at, is_trigger}
use Rattle.model.specs.Access.{without_reset, shown_byte, taken_bytes}
use Rattle.model.specs.Outcome.{laid_over}
use Rattle.model.specs.declared.lane.Apply.{Apply}
use Rattle.map_triggers.proofs.Triggers.{clear_place}
use Rattle.pages_window.specs.Hidden.{meets_hidden}

-- ---- what is shown of a byte

-- .. by what its place is to the triggers
pub shown_trigger : (x : Image) (i : ℕ) (a : Apply) → trigger_at i ≡ Some a → shown_byte x i ≡ 0
unfolding shown_byte is_trigger pick
shown_trigger x i a e = rw (e, is_trigger, pick)

pub shown_byte_lem : (x : Image) (i : ℕ) → trigger_at i ≡ None → shown_byte x i ≡ without_reset i (get_or x i 0)
unfolding shown_byte is_trigger pick
shown_byte_lem x i e = rw (e, is_trigger, pick)

-- of bytes that meet nothing hidden each is shown as it is stored
shown_stored : (x : Image) (i n k : ℕ) → meets_hidden i n ≡ false → k < n → shown_byte x (i + k) ≡ get_or x (i + k) 0
unfolding meets_hidden without_reset pick
shown_stored x i n k e h =
    let late : module_controls < i = leb-false i module_controls (either_l _ _ e) in
    shown_byte_lem x (i + k) (clear_place i n k (either_r _ _ e) h) ∙ rw (ne_eqb (i + k) module_controls (omega arith), pick)

-- ---- the bytes laid over the front of a buffer

-- one more value laid over the front of a buffer
lay_one : (f : ℕ → ℕ) (n : ℕ) (buffer : List ℕ) → n < length buffer → set (laid_over (tab n f) buffer) n (f n) ≡ laid_over (tab (suc n) f) buffer
unfolding laid_over tab
lay_one f n [] h = absurd (not-suc-le-zero h)
lay_one f zero (b ∷ bs) h = refl
lay_one f (suc n) (b ∷ bs) h = ap (λ t. f 0 ∷ t) (lay_one (λ k. f (suc k)) n bs (le_of_suc-le-suc h))

pub take_begin : (x : Image) (i : ℕ) (buffer : List ℕ) → buffer ≡ laid_over (taken_bytes x i 0) buffer
unfolding laid_over taken_bytes tab
take_begin x i buffer = refl

pub take_turn : (x : Image) (i n : ℕ) (buffer b : List ℕ) → n < length buffer → b ≡ laid_over (taken_bytes x i n) buffer
    → set b n (shown_byte x (i + n)) ≡ laid_over (taken_bytes x i (n + 1)) buffer
unfolding taken_bytes
take_turn x i n buffer b l e = rw (add-one n, e) (lay_one (λ k. shown_byte x (i + k)) n buffer l)

-- .. of bytes that meet nothing hidden
pub stored_turn : (x : Image) (i m n : ℕ) (buffer b : List ℕ) → meets_hidden i m ≡ false → n < m → n < length buffer → b ≡ laid_over (taken_bytes x i n) buffer
    → set b n (get_or x (i + n) 0) ≡ laid_over (taken_bytes x i (n + 1)) buffer
stored_turn x i m n buffer b e h l p = ap (set b n) (sym (shown_stored x i m n e h)) ∙ take_turn x i n buffer b l p
