-- A read changes no index, and one of other addresses than those of flags that can last shows none again. Assumes nothing.
use mathlib.Core.Path.{◌≡◌, refl, sym, ap, ◌∙◌}
use mathlib.Core.Bool.{Bool, true, false, not, ◌&&◌}
use mathlib.Core.Logic.{inl, inr}
use Prim.Native.Nat.{ℕ, ◌+◌, ◌-◌, ◌%◌, ◌≤◌, ◌<◌}
use native.Mathlib.Omega.{arith}
use lib.Dec.{eqb, leb, ltb}
use lib.ListN.{get_or}
use lib.Seq.{get_or-set_other}
use borrow.Author.Tests.{not-false, eqb-true, leb-true, ltb-true, ltb-false, le-leb, lt-ltb}
use Rattle.bits.specs.Choice.{pick, both, either}
use Rattle.bits.specs.Loop.{Among, any_of}
use Rattle.bits.proofs.Loops.{each_skip}
use Rattle.bits.proofs.Members.{any_of-none}
use Rattle.bits.proofs.Tests.{split, both_l, both_r, both_i, and_both, clash}
use Rattle.model.specs.Map.{Image, in_ranges, clearing, on, page11, lasting_count, lasting_flag, bank_select, page_select}
use Rattle.model.specs.Pages.{Page, pages, page_start, selected_start, index_of}
use Rattle.model.specs.Access.{cleared_image, half_end}
use Rattle.model.specs.Flags.{is_read, shown_again_image}
use Rattle.model.specs.declared.lane.Working.{Working}
use Rattle.model.proofs.Starts.{found}

-- ---- the index after a read

away : (j m : ℕ) → clearing m ≡ false → clearing j ≡ true → m ≡ j → ⊥
away j m f t q = clash (ap clearing q ∙ t) f

bank_kept : clearing bank_select ≡ false
unfolding clearing in_ranges both either
bank_kept = refl

page_kept : clearing page_select ≡ false
unfolding clearing in_ranges both either
page_kept = refl

pub index_kept : (x : Image) (i n a : ℕ) → index_of (cleared_image x i n) a ≡ index_of x a
unfolding cleared_image index_of selected_start
index_kept x i n a = each_skip _ _ (λ y. index_of y a) n x
    (λ k y b t. rw (get_or-set_other y (i + k) bank_select 0 0 (away (i + k) bank_select bank_kept t), get_or-set_other y (i + k) page_select 0 0 (away (i + k) page_select page_kept t)))

-- ---- other addresses

-- a page starts at a whole number of halves
unfoldable whole : Page → Bool
whole p = eqb (p.start % 128) 0

all_whole : any_of pages (λ p. not (whole p)) ≡ false
unfolding any_of whole either
all_whole = refl

page_whole : (p : Page) → Among p pages → p.start % 128 ≡ 0
unfolding whole
page_whole p m = eqb-true _ _ (not-false _ (any_of-none (λ p. not (whole p)) pages p all_whole m))

start-whole : (x : Image) → selected_start x % 128 ≡ 0
unfolding selected_start page_start
start-whole x = elim (found (get_or x bank_select 0) (get_or x page_select 0) pages) [
  | inl (p, m, t, f) ↦ rw f (page_whole p m)
  | inr (n, f) ↦ rw f (omega arith)
]

-- a flag of page 11h that a read takes has one of its addresses
taken_by : (x : Image) (a n flag : ℕ) → a + n ≤ half_end a → 135 ≤ flag → flag ≤ 152 → index_of x a ≤ on page11 flag → on page11 flag < index_of x a + n
    → (a ≤ flag) × (flag < a + n)
unfolding index_of half_end pick
taken_by x a n flag h l g p q = split (ltb a 128)
    (λ t.
    let e : a + n ≤ 128 = rw (t, pick) at h in
    let u : on page11 flag < a + n = rw (t, pick) at q in
    absurd (omega arith))
    (λ f.
    let b : 128 ≤ a = ltb-false a 128 f in
    let e : a + n ≤ 256 = rw (f, pick) at h in
    let s = start-whole x in
    let v : selected_start x + (a - 128) ≤ on page11 flag = rw (f, pick) at p in
    let u : on page11 flag < selected_start x + (a - 128) + n = rw (f, pick) at q in
    (omega arith, omega arith))

pub none_shown : (w : Working) (x y : Image) (a n : ℕ) → a + n ≤ half_end a → (leb a 152 && ltb 135 (a + n)) ≡ false → y ≡ shown_again_image w (index_of x a) n y
unfolding shown_again_image is_read
none_shown w x y a n h e =
    sym
    (each_skip _ _ (λ z. z) lasting_count y
    (λ k z b t.
    let r = taken_by x a n (lasting_flag k) h (omega arith) (omega arith) (leb-true _ _ (both_l _ _ t)) (ltb-true _ _ (both_r _ _ t)) in
    absurd (clash (both_i (le-leb a 152 (omega arith)) (lt-ltb 135 (a + n) (omega arith))) (sym (and_both _ _) ∙ e))))
