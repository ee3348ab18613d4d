-- The page of a number is one of the module's, or none of them has it; the selected page is 128 whole bytes of the image, past lower memory. Assumes nothing.
use Rattle.std.proofs.Common.{None, Some, Option, ℕ}
use mathlib.Core.Path.{◌≡◌, refl}
use mathlib.Core.Bool.{Bool, true, false, not}
use mathlib.Core.List.{List, [], ◌∷◌}
use mathlib.Core.Logic.{◌⊎◌, inl, inr}
use Prim.Native.Nat.{ℕ, ◌+◌, ◌≤◌}
use native.Mathlib.Omega.{arith}
use lib.Dec.{eqb, leb}
use lib.ListN.{get_or}
use borrow.Author.Tests.{leb-true, not-false}
use Rattle.bits.specs.Choice.{both, either, implies}
use Rattle.bits.specs.Loop.{Among, any_of}
use Rattle.bits.proofs.Tests.{split, both_l, both_r, pick_true, pick-false}
use Rattle.bits.proofs.Members.{any_of-none}
use Rattle.model.specs.Map.{Image, image_length}
use Rattle.model.specs.Pages.{Page, pages, find_page, page_start, upper_start, selected_start}

-- ---- the lookup goes by the list

-- a page has a number, in a bank
unfoldable pub is_page : ℕ → ℕ → Page → Bool
is_page bank page p = both (eqb page p.number) (implies p.banked (eqb bank 0))

-- what the lookup finds starts where a page of the list does that has the number; it finds nothing only where none has it
abbrev pub Found : List Page → ℕ → ℕ → Type 0
Found ps bank page =
    ((p : Page) × Among p ps × (is_page bank page p ≡ true) × (find_page ps bank page ≡ Some p.start))
    ⊎ ((any_of ps (is_page bank page) ≡ false) × (find_page ps bank page ≡ None))

module _ (bank page : ℕ) where
  past_first : (p : Page) (ps : List Page) → is_page bank page p ≡ false → Found ps bank page → Found (p ∷ ps) bank page
  unfolding Among any_of is_page find_page either
  past_first p ps e (inl (q, m, t, f)) = inl (q, inr m, t, rw (pick-false _ _ e) f)
  past_first p ps e (inr (n, f)) = inr (rw (e, either) n, rw (pick-false _ _ e) f)

  pub found : (ps : List Page) → Found ps bank page
  unfolding Among any_of is_page find_page
  found [] = inr (refl, refl)
  found (p ∷ ps) = split (is_page bank page p)
      (λ e. inl (p, inl refl, e, pick_true _ _ e))
      (λ e. past_first p ps e (found ps))

-- ---- where pages lie

-- a page's 128 bytes lie in upper memory
abbrev Fits : Option ℕ → Type 0
Fits p = (128 ≤ upper_start p) × (upper_start p + 128 ≤ image_length)

unfoldable fits : Page → Bool
fits p = both (leb 128 p.start) (leb (p.start + 128) image_length)

all_fit : any_of pages (λ p. not (fits p)) ≡ false
unfolding any_of fits both either
all_fit = refl

page_fits : (p : Page) → Among p pages → Fits (Some p.start)
unfolding fits
page_fits p m = let t = not-false _ (any_of-none (λ p. not (fits p)) pages p all_fit m) in (leb-true _ _ (both_l _ _ t), leb-true _ _ (both_r _ _ t))

place-fits : (bank page : ℕ) → Fits (page_start bank page)
unfolding page_start
place-fits bank page = elim (found bank page pages) [
  | inl (p, m, t, f) ↦ rw f (page_fits p m)
  | inr (n, f) ↦ rw f (omega arith, omega arith)
]

pub start_fits : (x : Image) → selected_start x + 128 ≤ image_length
unfolding selected_start
start_fits x = (place-fits (get_or x 126 0) (get_or x 127 0)).1

pub start_past : (x : Image) → 128 ≤ selected_start x
unfolding selected_start
start_past x = (place-fits (get_or x 126 0) (get_or x 127 0)).0
