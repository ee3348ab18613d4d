-- What every edition of the night file keeps to. Assumes nothing.
use mathlib.Core.Path.{◌≡◌, refl, sym, ap, ◌∙◌}
use mathlib.Core.Bool.{Bool, true}
use mathlib.Core.List.{List, [], ◌∷◌, ◌++◌}
use Prim.Native.Nat.{ℕ, zero, suc, ◌≤◌, ◌<◌}
use native.Mathlib.Omega.{arith}
use lib.Dec.{eqb, leb, ltb}
use lib.ListN.{length, get_or}
use lib.Seq.{ext_get_or}
use borrow.Author.Tests.{leb-true, ltb-true}
use Rattle.bits.specs.Choice.{both}
use Rattle.bits.proofs.Tests.{both_l, both_r, pick-has}
use Rattle.model.specs.Numbers.{Bytes, Count}
use Rattle.model.specs.Map.{image_length}
use Rattle.model.specs.File.{Form, Edition, forms_with, power_forms, first_edition, later_editions, edition_among, first_bytes, laid_out}
use Rattle.model.specs.declared.event.Call.{Call}

-- ---- what every row has, the edition of any number has

pub data EachHas (P : Edition → Type 0) : List Edition → Type 0 where
  first : P first_edition → EachHas P []
  row : {e : Edition} {es : List Edition} → P e → EachHas P es → EachHas P (e ∷ es)

pub among-has : (P : Edition → Type 0) (n : ℕ) (es : List Edition) → EachHas P es → P (edition_among es n)
unfolding edition_among
among-has P n [] (first p) = p
among-has P n (e ∷ es) (row p ps) = pick-has P (eqb n e.number) (λ t. p) (λ t. among-has P n es ps)

-- it carries some bytes of an image, and no more than the image has
unfoldable carries_image : Edition → Bool
carries_image e = both (ltb 0 e.image_bytes) (leb e.image_bytes image_length)

carries : (n : ℕ) → carries_image (edition_among later_editions n) ≡ true
unfolding carries_image both
carries n = among-has (λ e. carries_image e ≡ true) n later_editions (search (row, first))

pub edition_some : (n : ℕ) → 0 < (edition_among later_editions n).image_bytes
unfolding carries_image
edition_some n = ltb-true _ _ (both_l _ _ (carries n))

pub edition-fits : (n : ℕ) → (edition_among later_editions n).image_bytes ≤ image_length
unfolding carries_image
edition-fits n = leb-true _ _ (both_r _ _ (carries n))

-- its records have the six forms, and others after them
pub record HasSixForms (e : Edition) : Type 0 where
  pub condition_uses : Count
  pub condition_call : Bytes → Call
  pub others : List Form
  pub forms : e.forms ≡ forms_with condition_uses condition_call ++ others

with_six : {m n uses : Count} {call : Bytes → Call} (others : List Form) → HasSixForms (record { number = m; image_bytes = n; forms = forms_with uses call ++ others })
with_six {m} {n} {uses} {call} others = record { condition_uses = uses; condition_call = call; others = others; forms = refl }

pub six_forms : (n : ℕ) → HasSixForms (edition_among later_editions n)
six_forms n = among-has HasSixForms n later_editions (row (with_six []) (row (with_six []) (row (with_six power_forms) (first (with_six [])))))

-- ---- an image of today's length

length_first : (n : ℕ) (bytes : List ℕ) → length (first_bytes n bytes) ≡ n
unfolding first_bytes
length_first zero bytes = refl
length_first (suc n) [] = ap suc (length_first n [])
length_first (suc n) (b ∷ bytes) = ap suc (length_first n bytes)

first_at : (n : ℕ) (bytes : List ℕ) (i : ℕ) → i < n → get_or (first_bytes n bytes) i 0 ≡ get_or bytes i 0
unfolding first_bytes
first_at zero bytes i h = absurd (omega arith)
first_at (suc n) [] zero h = refl
first_at (suc n) [] (suc i) h = first_at n [] i (omega arith)
first_at (suc n) (b ∷ bytes) zero h = refl
first_at (suc n) (b ∷ bytes) (suc i) h = first_at n bytes i (omega arith)

pub length_laid_out : (bytes : List ℕ) → length (laid_out bytes) ≡ image_length
length_laid_out bytes = length_first image_length bytes

pub laid_out-same : (bytes others : List ℕ) → ((i : ℕ) → i < image_length → get_or bytes i 0 ≡ get_or others i 0) → laid_out bytes ≡ laid_out others
laid_out-same bytes others h = ext_get_or 0 _ _ (length_laid_out bytes ∙ sym (length_laid_out others)) (λ i b.
    let l : i < image_length = omega (arith, length_laid_out bytes) in
    first_at image_length bytes i l ∙ h i l ∙ sym (first_at image_length others i l))

pub laid_out-whole : (bytes : List ℕ) → length bytes ≡ image_length → laid_out bytes ≡ bytes
laid_out-whole bytes h = ext_get_or 0 _ _ (length_laid_out bytes ∙ sym h) (λ i b. first_at image_length bytes i (omega (arith, length_laid_out bytes)))
